-- A page, filled up with zeros, is one page's, and so is a record.
use Rattle.std.proofs.Common.{◌≡◌, ◌≢◌, ℕ, ◌+◌, ◌*◌, ◌<◌, ◌≤◌, ◌^◌, true, List, [], ◌∷◌, ◌++◌, length, Option, refl, sym, ap, subst, ◌∙◌, arith, inl, inr}
use Rattle.std.specs.Prelude.{◌⊎◌}
use Rattle.std.specs.List.{flat_map, AllByRecursion}
use Rattle.std.specs.Int.{w32, w64}
use Rattle.std.proofs.lemmas.Bool.{eqb-true}
use Rattle.std.proofs.lemmas.List.{length-append}
use Rattle.le_codec.specs.Fields.{le, IsField}
use Rattle.le_codec.specs.Images.{first_format}
use Rattle.le_codec.specs.Images.{padded}
use Rattle.le_codec.proofs.Laws.{length_8, length_16, length_32, length_64}
use Rattle.le_codec.proofs.Combined.{many_field, one_value}
use Rattle.le_codec.proofs.Heads.{same_framed}
use Rattle.kv_model.specs.Content.{Snapshot}
use Rattle.row_page.specs.Rows.{Row, cell}
use Rattle.row_page.proofs.Leaves.{leaf_exact, length-cell}
use Rattle.device_layout.specs.declared.link.Link.{Link}
use Rattle.stored.specs.Links.{link_text, nowhere, is_nowhere}
use Rattle.stored.specs.TableTree.{Entry, entry_text, EntryFits, AreEntries, inner_image, Bears, table_kind}
use Rattle.stored.specs.HistoryTree.{HistoryEntry, HistoryRecord, history_entry_text, HistoryEntryFits, AreHistoryEntries, history_inner_image, record_text, AreRecords, history_image, history_kind}
use Rattle.stored.specs.Records.{TableRoot, Record, SnapshotFits, TableFits, IdsAscend, IsRecord, record_body, record_image, table_text}
use Rattle.stored.proofs.Fields.{EntrySpelled, entry_field, HistoryEntrySpelled, history_entry_field, placed_field, TableSpelled, SnapshotSpelled, RecordSpelled, record_field}
use Rattle.stored.proofs.OneTree.{IsExact}

-- what fits is spelled
all_more : {A : Type 0} (P Q : A → Type 0) (more : (x : A) → P x → Q x) (xs : List A) → AllByRecursion P xs → AllByRecursion Q xs
all_more P Q more [] h = tt
all_more P Q more (x ∷ xs) h = (more x h.0, all_more P Q more xs h.1)

-- two lists of things with the same text and number are the same
same_list : {A : Type 0} {s : A → List ℕ} {f : List ℕ → Option (A × List ℕ)} {Fits : A → Type 0} (field : IsField s f Fits) (p q : List A) → AllByRecursion Fits p → AllByRecursion Fits q → length p ≡ length q → flat_map s p ≡ flat_map s q → p ≡ q
same_list {s = s} field p q hp hq len same =
    (one_value (many_field field (length p)) p q [] [] (refl, hp) (sym len, hq) (ap (λ (l : List ℕ). l ++ []) same)).0

-- ---- sizes

pub length-link : (l : Link) → length (link_text l) ≡ 40
length-link l = simp (length-append, length_32, length_64) refl

pub length-entry : (e : Entry) → length (entry_text e) ≡ 42 + length e.key
length-entry e = simp (length-append, length_16, length_32, length_64) (omega arith)

pub length-history-entry : (e : HistoryEntry) → length (history_entry_text e) ≡ 70 + length e.least.key
length-history-entry e = simp (length-append, length_16, length_32, length_64) (omega arith)

entries_upto : (es : List Entry) → 42 * length es ≤ length (flat_map entry_text es)
entries_upto [] = omega arith
entries_upto (e ∷ es) = omega (arith, entries_upto es, length-append (entry_text e) (flat_map entry_text es), length-entry e)

history_entries_upto : (es : List HistoryEntry) → 70 * length es ≤ length (flat_map history_entry_text es)
history_entries_upto [] = omega arith
history_entries_upto (e ∷ es) = omega (arith, history_entries_upto es, length-append (history_entry_text e) (flat_map history_entry_text es), length-history-entry e)

length-record : (r : HistoryRecord) → 39 ≤ length (record_text r)
length-record r = omega (arith, length-append (le w32 r.table) (cell (r.key, r.version)), length-cell (r.key, r.version))

records_upto : (rs : List HistoryRecord) → 39 * length rs ≤ length (flat_map record_text rs)
records_upto [] = omega arith
records_upto (r ∷ rs) = omega (arith, records_upto rs, length-append (record_text r) (flat_map record_text rs), length-record r)

-- ---- inner pages and leaves of the history

entry_spelled : (e : Entry) → EntryFits e → EntrySpelled e
entry_spelled e h = record { key = omega (arith, h.key); link = h.link }

inner_exact : (level size : ℕ) (p q : List Entry) → AreEntries level p → AreEntries level q → padded (inner_image level p) size ≡ padded (inner_image level q) size → p ≡ q
inner_exact level size p q hp hq same =
    let both = same_framed 2 first_format level level (length p) (length q) (flat_map entry_text p) (flat_map entry_text q) size size (omega arith) (omega arith) (omega (arith, hp.high)) (omega (arith, hp.high)) (omega (arith, entries_upto p, hp.size)) (omega (arith, entries_upto q, hq.size)) (omega (arith, hp.size)) (omega (arith, hq.size)) same in
    same_list entry_field p q (all_more EntryFits EntrySpelled entry_spelled p hp.fit) (all_more EntryFits EntrySpelled entry_spelled q hq.fit) both.0 both.2

history_entry_spelled : (e : HistoryEntry) → HistoryEntryFits e → HistoryEntrySpelled e
history_entry_spelled e h = record { table = h.table; key = omega (arith, h.key); commit = h.commit; run = omega (arith, h.name.run.1); id = omega (arith, h.name.id.1); link = h.link }

history_inner_exact : (level size : ℕ) (p q : List HistoryEntry) → AreHistoryEntries level p → AreHistoryEntries level q → padded (history_inner_image level p) size ≡ padded (history_inner_image level q) size → p ≡ q
history_inner_exact level size p q hp hq same =
    let both = same_framed 4 first_format level level (length p) (length q) (flat_map history_entry_text p) (flat_map history_entry_text q) size size (omega arith) (omega arith) (omega (arith, hp.high)) (omega (arith, hp.high)) (omega (arith, history_entries_upto p, hp.size)) (omega (arith, history_entries_upto q, hq.size)) (omega (arith, hp.size)) (omega (arith, hq.size)) same in
    same_list history_entry_field p q (all_more HistoryEntryFits HistoryEntrySpelled history_entry_spelled p hp.fit) (all_more HistoryEntryFits HistoryEntrySpelled history_entry_spelled q hq.fit) both.0 both.2

history_leaf_exact : (size : ℕ) (p q : List HistoryRecord) → AreRecords p → AreRecords q → padded (history_image p) size ≡ padded (history_image q) size → p ≡ q
history_leaf_exact size p q hp hq same =
    let both = same_framed 3 first_format 0 0 (length p) (length q) (flat_map record_text p) (flat_map record_text q) size size (omega arith) (omega arith) (omega arith) (omega arith) (omega (arith, records_upto p, hp.size)) (omega (arith, records_upto q, hq.size)) (omega (arith, hp.size)) (omega (arith, hq.size)) same in
    same_list placed_field p q hp.fit hq.fit both.0 both.2

-- ---- trees

nothing_there : (e : Entry) (p q : List Row) → is_nowhere e.link.addr ≡ true → Bears e p → Bears e q → p ≡ q
nothing_there e p q is hp hq = (hp.empty is).1 ∙ sym (hq.empty is).1

pub table_exact : IsExact table_kind
table_exact = record {
  inner = λ level size e p q hp hq same. inner_exact level size p q hp.page hq.page same;
  leaf = λ size e p q hp hq same. leaf_exact size size p q hp.leaf hq.leaf same;
  nowhere = nothing_there;
}

-- a leaf of the history is stored exactly where it has records
stored_leaf : (size : ℕ) (e : HistoryEntry) (p q : List HistoryRecord) → ((e.link ≡ nowhere) × (p ≡ [])) ⊎ ((e.link.addr.offset ≢ 0) × AreRecords p) → ((e.link ≡ nowhere) × (q ≡ [])) ⊎ ((e.link.addr.offset ≢ 0) × AreRecords q)
    → padded (history_image p) size ≡ padded (history_image q) size → p ≡ q
stored_leaf size e p q (inl x) (inl y) same = x.1 ∙ sym y.1
stored_leaf size e p q (inl x) (inr y) same = absurd (y.0 (ap (λ (l : Link). l.addr.offset) x.0))
stored_leaf size e p q (inr x) (inl y) same = absurd (x.0 (ap (λ (l : Link). l.addr.offset) y.0))
stored_leaf size e p q (inr x) (inr y) same = history_leaf_exact size p q x.1 y.1 same

none_stored : (e : HistoryEntry) (p : List HistoryRecord) → is_nowhere e.link.addr ≡ true → ((e.link ≡ nowhere) × (p ≡ [])) ⊎ ((e.link.addr.offset ≢ 0) × AreRecords p) → p ≡ []
none_stored e p is (inl x) = x.1
none_stored e p is (inr x) = absurd (x.0 (eqb-true _ _ is))

pub history_exact : IsExact history_kind
history_exact = record {
  inner = λ level size e p q hp hq same. history_inner_exact level size p q hp.page hq.page same;
  leaf = λ size e p q hp hq same. stored_leaf size e p q hp.leaf hq.leaf same;
  nowhere = λ e p q is hp hq. none_stored e p is hp.leaf ∙ sym (none_stored e q is hq.leaf);
}

-- ---- records

table_spelled : (next : ℕ) (t : TableRoot) → next < 2 ^ 32 → TableFits next t → TableSpelled t
table_spelled next t small h = record { number = omega (arith, h.number.1, small); level = omega (arith, h.root.level); name = omega (arith, h.name.most); link = h.root.link }

ids_spelled : (least max : ℕ) (ids : List ℕ) → max < 2 ^ 64 → IdsAscend least max ids → AllByRecursion (λ (n : ℕ). n < 2 ^ 64) ids
ids_spelled least max [] small h = tt
ids_spelled least max (id ∷ ids) small h = (omega (arith, h.1, small), ids_spelled (id + 1) max ids small h.2)

snapshot_spelled : (s : Snapshot) → SnapshotFits s → SnapshotSpelled s
snapshot_spelled s h = record { min = omega (arith, h.order, h.max); max = h.max; few = omega (arith, h.few); ids = ids_spelled s.min s.max s.ids h.max h.ids }

pub record_spelled : (r : Record) → IsRecord r → RecordSpelled (length r.tables) r
record_spelled r h = record {
  sequence = omega (arith, h.sequence);
  run = omega (arith, h.run.1, h.sequence);
  oldest = h.oldest;
  stable = h.stable;
  snapshot = snapshot_spelled r.snapshot h.snapshot;
  next = h.next;
  level = omega (arith, h.history.level);
  link = h.history.link;
  many = refl;
  tables = all_more (λ (t : TableRoot). TableFits r.next_table t) TableSpelled (λ t fits. table_spelled r.next_table t h.next fits) r.tables h.tables;
}

length-table : (t : TableRoot) → length (table_text t) ≡ 48 + length t.table.name
length-table t = simp (length-append, length_8, length_32, length_64) (omega arith)

tables_most : (next : ℕ) (tables : List TableRoot) → AllByRecursion (λ (t : TableRoot). TableFits next t) tables → length (flat_map table_text tables) ≤ 176 * length tables
tables_most next [] h = omega arith
tables_most next (t ∷ tables) h = omega (arith, length-append (table_text t) (flat_map table_text tables), length-table t, h.0.name.most, tables_most next tables h.1)

ids_length : (ids : List ℕ) → length (flat_map (le w64) ids) ≡ 8 * length ids
ids_length [] = refl
ids_length (id ∷ ids) = omega (arith, length-append (le w64 id) (flat_map (le w64) ids), length_64 id, ids_length ids)

-- a record's image has at most 2 ^ 18 bytes
pub record_most : (r : Record) → IsRecord r → 16 + length (record_body r) ≤ 2 ^ 18
record_most r h =
    let body : length (record_body r) ≡ 95 + length (flat_map (le w64) r.snapshot.ids) + length (flat_map table_text r.tables) = simp (length-append, length_8, length_16, length_32, length_64) (omega arith) in
    omega (arith, body, ids_length r.snapshot.ids, h.snapshot.few, tables_most r.next_table r.tables h.tables, h.count)

pub record_exact : (size other : ℕ) (p q : Record) → IsRecord p → IsRecord q → padded (record_image p) size ≡ padded (record_image q) other → p ≡ q
record_exact size other p q hp hq same =
    let both = same_framed 5 first_format 0 0 (length p.tables) (length q.tables) (record_body p) (record_body q) size other (omega arith) (omega arith) (omega arith) (omega arith) (omega (arith, hp.count)) (omega (arith, hq.count)) (omega (arith, record_most p hp)) (omega (arith, record_most q hq)) same in
    let spelled : RecordSpelled (length p.tables) q = subst (λ (n : ℕ). RecordSpelled n q) (sym both.0) (record_spelled q hq) in
    (one_value (record_field (length p.tables)) p q [] [] (record_spelled p hp) spelled (ap (λ (l : List ℕ). l ++ []) both.2)).0
