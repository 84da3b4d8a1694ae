-- The rules, as they are tested, are those of a record, where its text has them.
use Rattle.std.proofs.Common.{◌≡◌, ◌≢◌, ℕ, suc, ◌+◌, ◌<◌, ◌≤◌, ◌==◌, ◌^◌, true, List, [], ◌∷◌, ◌++◌, length, refl, sym, subst, inl, inr, arith}
use Rattle.std.specs.Prelude.{◌⊎◌, ◌&&◌, ◌||◌, not, nat_le, nat_lt}
use Rattle.std.specs.List.{flat_map, list_all, AllByRecursion}
use Rattle.std.specs.Int.{w8, w32}
use Rattle.std.proofs.lemmas.Bool.{cases_lt, and_parts, and_from, or_cases, or_left, or_right, not-true, not_from_false, leb-true, le-leb, ltb-true, lt-ltb, eqb-true, eqb-false, eq-eqb, ne_eqb}
use Rattle.std.proofs.lemmas.List.{get_or-append-add, get_or_append_left, get_or_past}
use Rattle.limits.specs.declared.TheConstants.{NUMBER_MAX, LEVELS_MAX}
use Rattle.le_codec.specs.Fields.{le, IsBytes}
use Rattle.kv_model.specs.Content.{Snapshot}
use Rattle.kv_model.specs.Decisions.{is_name, is_name_byte}
use Rattle.row_page.specs.Rows.{is_below}
use Rattle.stored.specs.Links.{link_text}
use Rattle.stored.specs.Records.{TableRoot, Record, table_text, snapshot_text, record_body, IdsAscend, SnapshotFits, IsNameByte, IsTableName, TableFits, TablesClimb, IsRecord}
use Rattle.stored.proofs.Fields.{TableSpelled, RecordSpelled}
use Rattle.checkpoint_record.specs.Parts.{marks_text, numbers_text}
use Rattle.checkpoint_record.specs.Rules.{marks_keep, ids_ascend, snapshot_keeps, table_keeps, names_ascend, tables_keep, Keeps}

-- ---- bytes of parts

bytes_behind : (x y : List ℕ) → IsBytes (x ++ y) → IsBytes y
bytes_behind x y fits i = subst (λ (n : ℕ). n < 256) (get_or-append-add x y i 0) (fits (length x + i))

bytes_before : (x y : List ℕ) → IsBytes (x ++ y) → IsBytes x
bytes_before x y fits i = elim (cases_lt i (length x)) [
  | inl lt ↦ subst (λ (n : ℕ). n < 256) (get_or_append_left x y 0 i lt) (fits i)
  | inr past ↦ subst (λ (n : ℕ). n < 256) (sym (get_or_past x i 0 past)) (omega arith)
]

abbrev HasBytes : TableRoot → Type 0
HasBytes t = IsBytes t.table.name

tables_bytes : (tables : List TableRoot) → IsBytes (flat_map table_text tables) → AllByRecursion (λ (t : TableRoot). HasBytes t) tables
tables_bytes [] fits = tt
tables_bytes (t ∷ tables) fits = (
  bytes_behind (numbers_text t ++ link_text t.root.link) t.table.name (bytes_before (table_text t) (flat_map table_text tables) fits),
  tables_bytes tables (bytes_behind (table_text t) (flat_map table_text tables) fits),
)

-- the names of a record's text are of bytes
pub names_bytes : (r : Record) → IsBytes (record_body r) → AllByRecursion (λ (t : TableRoot). HasBytes t) r.tables
names_bytes r fits =
    tables_bytes r.tables
    (bytes_behind (marks_text r ++ snapshot_text r.snapshot ++ le w32 r.next_table ++ le w8 r.history.level ++ link_text r.history.link) (flat_map table_text r.tables) fits)

-- ---- names

other_than : (b k : ℕ) → not (b == k) ≡ true → b ≢ k
other_than b k is = eqb-false b k (not-true (b == k) is)

not_same : (b k : ℕ) → b ≢ k → not (b == k) ≡ true
not_same b k other = not_from_false (b == k) (ne_eqb b k other)

byte_true : (b : ℕ) → is_name_byte b ≡ true → b < 256 → IsNameByte b
byte_true b is small =
    let parts = and_parts (nat_lt 32 b) (not (b == 58) && not (b == 127)) is in
    let rest = and_parts (not (b == 58)) (not (b == 127)) parts.1 in
    record { visible = omega (arith, ltb-true 32 b parts.0); delete = other_than b 127 rest.1; colon = other_than b 58 rest.0; byte = small }

byte_is : (b : ℕ) → IsNameByte b → is_name_byte b ≡ true
byte_is b is =
    and_from (nat_lt 32 b) (not (b == 58) && not (b == 127)) (lt-ltb 32 b (omega (arith, is.visible)))
    (and_from (not (b == 58)) (not (b == 127)) (not_same b 58 is.colon) (not_same b 127 is.delete))

bytes_true : (name : List ℕ) → list_all is_name_byte name ≡ true → IsBytes name → AllByRecursion (λ (b : ℕ). IsNameByte b) name
bytes_true [] all fits = tt
bytes_true (b ∷ name) all fits =
    let parts = and_parts (is_name_byte b) (list_all is_name_byte name) all in
    (byte_true b parts.0 (fits 0), bytes_true name parts.1 (λ i. fits (suc i)))

bytes_are : (name : List ℕ) → AllByRecursion (λ (b : ℕ). IsNameByte b) name → list_all is_name_byte name ≡ true
bytes_are [] all = refl
bytes_are (b ∷ name) all = and_from (is_name_byte b) (list_all is_name_byte name) (byte_is b all.0) (bytes_are name all.1)

name_true : (name : List ℕ) → is_name name ≡ true → IsBytes name → IsTableName name
name_true name is fits =
    let parts = and_parts (nat_lt 0 (length name)) (nat_le (length name) 128 && list_all is_name_byte name) is in
    let rest = and_parts (nat_le (length name) 128) (list_all is_name_byte name) parts.1 in
    record { some = omega (arith, ltb-true 0 (length name) parts.0); most = leb-true (length name) 128 rest.0; bytes = bytes_true name rest.1 fits }

pub name_is : (name : List ℕ) → IsTableName name → is_name name ≡ true
name_is name is =
    and_from (nat_lt 0 (length name)) (nat_le (length name) 128 && list_all is_name_byte name) (lt-ltb 0 (length name) (omega (arith, is.some)))
    (and_from (nat_le (length name) 128) (list_all is_name_byte name) (le-leb (length name) 128 is.most) (bytes_are name is.bytes))

-- ---- a table

pub record TableKeeps (next : ℕ) (t : TableRoot) : Type 0 where
  pub number : (1 ≤ t.table.number) × (t.table.number < next)
  pub level : t.root.level ≤ 60
  pub name : is_name t.table.name ≡ true

table_true : (next : ℕ) (t : TableRoot) → table_keeps next t ≡ true → TableKeeps next t
table_true next t e =
    let a = and_parts (nat_le 1 t.table.number && nat_lt t.table.number next && nat_le t.root.level LEVELS_MAX) (is_name t.table.name) e in
    let b = and_parts (nat_le 1 t.table.number && nat_lt t.table.number next) (nat_le t.root.level LEVELS_MAX) a.0 in
    let c = and_parts (nat_le 1 t.table.number) (nat_lt t.table.number next) b.0 in
    record { number = (leb-true 1 t.table.number c.0, ltb-true t.table.number next c.1); level = leb-true t.root.level LEVELS_MAX b.1; name = a.1 }

table_is : (next : ℕ) (t : TableRoot) → TableFits next t → table_keeps next t ≡ true
table_is next t h =
    and_from (nat_le 1 t.table.number && nat_lt t.table.number next && nat_le t.root.level LEVELS_MAX) (is_name t.table.name)
    (and_from (nat_le 1 t.table.number && nat_lt t.table.number next) (nat_le t.root.level LEVELS_MAX)
    (and_from (nat_le 1 t.table.number) (nat_lt t.table.number next) (le-leb 1 t.table.number h.number.0) (lt-ltb t.table.number next h.number.1)) (le-leb t.root.level LEVELS_MAX h.root.level))
    (name_is t.table.name h.name)

tables_fit : (next : ℕ) (tables : List TableRoot) → list_all (table_keeps next) tables ≡ true → AllByRecursion TableSpelled tables → AllByRecursion (λ (t : TableRoot). HasBytes t) tables → AllByRecursion (λ (t : TableRoot). TableFits next t) tables
tables_fit next [] e wide bytes = tt
tables_fit next (t ∷ tables) e wide bytes =
    let p = and_parts (table_keeps next t) (list_all (table_keeps next) tables) e in
    let k = table_true next t p.0 in
    (record { number = k.number; name = name_true t.table.name k.name bytes.0; root = record { level = k.level; link = wide.0.link } }, tables_fit next tables p.1 wide.1 bytes.1)

tables_are : (next : ℕ) (tables : List TableRoot) → AllByRecursion (λ (t : TableRoot). TableFits next t) tables → list_all (table_keeps next) tables ≡ true
tables_are next [] all = refl
tables_are next (t ∷ tables) all = and_from (table_keeps next t) (list_all (table_keeps next) tables) (table_is next t all.0) (tables_are next tables all.1)

climb_true : (tables : List TableRoot) → names_ascend tables ≡ true → TablesClimb tables
climb_true [] e = tt
climb_true (t ∷ []) e = tt
climb_true (t ∷ u ∷ tables) e =
    let p = and_parts (is_below t.table.name u.table.name) (names_ascend (u ∷ tables)) e in
    (p.0, climb_true (u ∷ tables) p.1)

climb_is : (tables : List TableRoot) → TablesClimb tables → names_ascend tables ≡ true
climb_is [] h = refl
climb_is (t ∷ []) h = refl
climb_is (t ∷ u ∷ tables) h = and_from (is_below t.table.name u.table.name) (names_ascend (u ∷ tables)) h.0 (climb_is (u ∷ tables) h.1)

-- ---- the snapshot

ids_true : (least max : ℕ) (ids : List ℕ) → ids_ascend least max ids ≡ true → IdsAscend least max ids
ids_true least max [] e = tt
ids_true least max (id ∷ ids) e =
    let a = and_parts (nat_le least id && nat_lt id max) (ids_ascend (id + 1) max ids) e in
    let b = and_parts (nat_le least id) (nat_lt id max) a.0 in
    (leb-true least id b.0, ltb-true id max b.1, ids_true (id + 1) max ids a.1)

ids_are : (least max : ℕ) (ids : List ℕ) → IdsAscend least max ids → ids_ascend least max ids ≡ true
ids_are least max [] h = refl
ids_are least max (id ∷ ids) h =
    and_from (nat_le least id && nat_lt id max) (ids_ascend (id + 1) max ids) (and_from (nat_le least id) (nat_lt id max) (le-leb least id h.0) (lt-ltb id max h.1)) (ids_are (id + 1) max ids h.2)

snapshot_true : (s : Snapshot) → snapshot_keeps s ≡ true → s.max < 2 ^ 64 → SnapshotFits s
snapshot_true s e wide =
    let a = and_parts (nat_le s.min s.max && nat_le (length s.ids) 64) (ids_ascend s.min s.max s.ids) e in
    let b = and_parts (nat_le s.min s.max) (nat_le (length s.ids) 64) a.0 in
    record { order = leb-true s.min s.max b.0; max = wide; few = leb-true (length s.ids) 64 b.1; ids = ids_true s.min s.max s.ids a.1 }

snapshot_is : (s : Snapshot) → SnapshotFits s → snapshot_keeps s ≡ true
snapshot_is s h =
    and_from (nat_le s.min s.max && nat_le (length s.ids) 64) (ids_ascend s.min s.max s.ids)
    (and_from (nat_le s.min s.max) (nat_le (length s.ids) 64) (le-leb s.min s.max h.order) (le-leb (length s.ids) 64 h.few)) (ids_are s.min s.max s.ids h.ids)

-- ---- the marks

pub record MarksKeep (r : Record) : Type 0 where
  pub sequence : r.sequence < 2 ^ 62
  pub run : (1 ≤ r.run) × (r.run ≤ r.sequence)
  pub stamps : (r.stable ≡ 0) ⊎ (r.oldest ≤ r.stable)

stamps_true : (stable oldest : ℕ) → ((stable == 0) || nat_le oldest stable) ≡ true → (stable ≡ 0) ⊎ (oldest ≤ stable)
stamps_true stable oldest e = elim (or_cases (stable == 0) (nat_le oldest stable) e) [
  | inl unset ↦ inl (eqb-true stable 0 unset)
  | inr order ↦ inr (leb-true oldest stable order)
]

stamps_are : (stable oldest : ℕ) → (stable ≡ 0) ⊎ (oldest ≤ stable) → ((stable == 0) || nat_le oldest stable) ≡ true
stamps_are stable oldest (inl unset) = or_left (stable == 0) (nat_le oldest stable) (eq-eqb stable 0 unset)
stamps_are stable oldest (inr order) = or_right (stable == 0) (nat_le oldest stable) (le-leb oldest stable order)

marks_true : (r : Record) → marks_keep r ≡ true → MarksKeep r
marks_true r e =
    let a = and_parts (nat_le r.sequence NUMBER_MAX && (nat_le 1 r.run && nat_le r.run r.sequence)) ((r.stable == 0) || nat_le r.oldest r.stable) e in
    let b = and_parts (nat_le r.sequence NUMBER_MAX) (nat_le 1 r.run && nat_le r.run r.sequence) a.0 in
    let c = and_parts (nat_le 1 r.run) (nat_le r.run r.sequence) b.1 in
    record { sequence = omega (arith, leb-true r.sequence NUMBER_MAX b.0); run = (leb-true 1 r.run c.0, leb-true r.run r.sequence c.1); stamps = stamps_true r.stable r.oldest a.1 }

marks_are : (r : Record) → IsRecord r → marks_keep r ≡ true
marks_are r h =
    and_from (nat_le r.sequence NUMBER_MAX && (nat_le 1 r.run && nat_le r.run r.sequence)) ((r.stable == 0) || nat_le r.oldest r.stable)
    (and_from (nat_le r.sequence NUMBER_MAX) (nat_le 1 r.run && nat_le r.run r.sequence) (le-leb r.sequence NUMBER_MAX (omega (arith, h.sequence)))
    (and_from (nat_le 1 r.run) (nat_le r.run r.sequence) (le-leb 1 r.run h.run.0) (le-leb r.run r.sequence h.run.1))) (stamps_are r.stable r.oldest h.stamps)

-- ---- a record

pub keeps_true : (count : ℕ) (r : Record) → count ≤ 1024 → RecordSpelled count r → IsBytes (record_body r) → Keeps r → IsRecord r
keeps_true count r few wide bytes k =
    let a = and_parts (marks_keep r && snapshot_keeps r.snapshot && nat_le r.history.level LEVELS_MAX) (tables_keep r.next_table r.tables) k.fields in
    let b = and_parts (marks_keep r && snapshot_keeps r.snapshot) (nat_le r.history.level LEVELS_MAX) a.0 in
    let c = and_parts (marks_keep r) (snapshot_keeps r.snapshot) b.0 in
    let d = and_parts (list_all (table_keeps r.next_table) r.tables) (names_ascend r.tables) a.1 in
    let marks = marks_true r c.0 in
    record {
      sequence = marks.sequence;
      run = marks.run;
      oldest = wide.oldest;
      stable = wide.stable;
      stamps = marks.stamps;
      snapshot = snapshot_true r.snapshot c.1 wide.snapshot.max;
      next = wide.next;
      history = record { level = leb-true r.history.level LEVELS_MAX b.1; link = wide.link };
      count = omega (arith, wide.many, few);
      tables = tables_fit r.next_table r.tables d.0 wide.tables (names_bytes r bytes);
      climb = climb_true r.tables d.1;
      once = k.once;
    }

pub record_keeps : (r : Record) → IsRecord r → Keeps r
record_keeps r h = record {
  fields = and_from (marks_keep r && snapshot_keeps r.snapshot && nat_le r.history.level LEVELS_MAX) (tables_keep r.next_table r.tables)
      (and_from (marks_keep r && snapshot_keeps r.snapshot) (nat_le r.history.level LEVELS_MAX) (and_from (marks_keep r) (snapshot_keeps r.snapshot) (marks_are r h) (snapshot_is r.snapshot h.snapshot)) (le-leb r.history.level LEVELS_MAX h.history.level))
      (and_from (list_all (table_keeps r.next_table) r.tables) (names_ascend r.tables) (tables_are r.next_table r.tables h.tables) (climb_is r.tables h.climb));
  once = h.once;
}
