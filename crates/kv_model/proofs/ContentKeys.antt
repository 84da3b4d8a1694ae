-- One key of a device: its cell, its records, and what an opening keeps of them.
use Rattle.std.proofs.Common.{◌≡◌, ℕ, refl, ap, sym, ◌∙◌, Bool, true, false, List, [], ◌∷◌, ◌++◌, inl, inr, subst, map, arith}
use Rattle.std.specs.Prelude.{Option, Some, None, find, filter, not, ◌==◌, bytes_eq, option_map}
use Rattle.std.specs.List.{list_any}
use Rattle.std.proofs.lemmas.Bool.{cases_Bool, and_parts, and_from, or_cases, eqb-true, eq-eqb}
use Rattle.std.proofs.lemmas.Slice.Eq.{bytes_eq-Decides}
use Rattle.item.specs.declared.Change.{Change}
use Rattle.stamp.specs.declared.Name.{Name}
use Rattle.stamp.specs.declared.Version.{Version}
use Rattle.kv_model.specs.Holds.{Member, Stores}
use Rattle.kv_model.specs.Ordered.{Older, NameBelow}
use Rattle.kv_model.specs.History.{Placed, of_key, is_at, has_table, name_eq}
use Rattle.kv_model.specs.Droppable.{covers}
use Rattle.kv_model.specs.Captures.{UpTo, In, IsKeyContent, IsKeyLayered}
use Rattle.kv_model.specs.CaptureLaws.{KeptOf}
use Rattle.kv_model.specs.Content.{Content, start, kept, kept_cells, is_kept_version, is_again, descending, placed_lt, table_lt, IsLayered}
use Rattle.kv_model.specs.Regular.{AllApart, SameKey, IsRegular}
use Rattle.kv_model.specs.Marks.{recorded_mark, keeps_cell}
use Rattle.kv_model.specs.OpeningLaws.{StartsStand, cell_of, records_of, kept_records_of}
use Rattle.kv_model.specs.StoreLaws.{Held}
use Rattle.kv_model.proofs.Newest.{find-member, find-none}
use Rattle.kv_model.proofs.Capturing.{member-out, member-into}
use Rattle.kv_model.proofs.Finishing.{line-base, older-order}
use Rattle.kv_model.proofs.Sorting.{member-descending, descending-member}
use Rattle.kv_model.proofs.Opening.{of-key-from, at-placed, kept-from, is_other, no-seat}
use Rattle.kv_model.proofs.Living.{opened-stands}
use Rattle.kv_model.proofs.ReconciledKeys.{stores-alike}

-- ---- lists of placed versions

pub at-self : (p : Placed) → is_at p.table p.key p ≡ true
at-self p = and_from (p.table == p.table) (bytes_eq p.key p.key) (eq-eqb p.table p.table refl) ((bytes_eq-Decides p.key p.key).1 refl)

pub at-there : (table : ℕ) (key : List ℕ) (p : Placed) → p.table ≡ table → p.key ≡ key → is_at table key p ≡ true
at-there table key p one two = and_from (p.table == table) (bytes_eq p.key key) (eq-eqb p.table table one) ((bytes_eq-Decides p.key key).1 two)

pub of-key-into : (table : ℕ) (key : List ℕ) (l : List Placed) (p : Placed) → Member p l → is_at table key p ≡ true → Member p.version (of_key table key l)
of-key-into table key l p there is = into (filter (is_at table key) l) (member-into (is_at table key) l p there is) where
  into : (l : List Placed) → Member p l → Member p.version (map {A = Placed} (λ p. p.version) l)
  into [] there = absurd there
  into (q ∷ l) (inl same) = inl (ap (λ (z : Placed). z.version) same)
  into (q ∷ l) (inr later) = inr (into l later)

pub any-from : {A : Type 0} (test : A → Bool) (l : List A) → list_any test l ≡ true → (x : A) × Member x l × (test x ≡ true)
any-from test [] e = absurd (cc)
any-from test (x ∷ xs) e = elim (or_cases (test x) (list_any test xs) e) [ inl here ↦ (x, inl refl, here) | inr later ↦ let u = any-from test xs later in (u.0, inr u.1, u.2) ]

-- of a key there is one cell
one-cell : (l : List Placed) → AllApart SameKey l → (p q : Placed) → Member p l → Member q l → SameKey p q → p ≡ q
one-cell [] apart p q a b same = absurd a
one-cell (x ∷ l) apart p q (inl a) (inl b) same = a ∙ sym b
one-cell (x ∷ l) apart p q (inl a) (inr b) same = absurd (apart.0 q b (subst (λ (z : Placed). SameKey z q) a same))
one-cell (x ∷ l) apart p q (inr a) (inl b) same = absurd (apart.0 p a (subst (λ (z : Placed). SameKey z p) b (sym same.0, sym same.1)))
one-cell (x ∷ l) apart p q (inr a) (inr b) same = one-cell l apart.1 p q a b same

-- ---- the cell

pub cell-placed : (c : Content) (table : ℕ) (key : List ℕ) (v : Version Change) → cell_of c table key ≡ Some v → (p : Placed) × Member p c.cells × (is_at table key p ≡ true) × (v ≡ p.version)
cell-placed c table key v is = by-found (find (is_at table key) c.cells) refl is where
  by-found : (o : Option Placed) → find (is_at table key) c.cells ≡ o → option_map (λ (p : Placed). p.version) o ≡ Some v → (p : Placed) × Member p c.cells × (is_at table key p ≡ true) × (v ≡ p.version)
  by-found None e is = absurd (cc)
  by-found (Some p) e is = let m = find-member (is_at table key) c.cells p e in (p, m.0, m.1, (let same : p.version ≡ v = cc in sym same))

pub placed-cell : (c : Content) → IsRegular c → (table : ℕ) (key : List ℕ) (p : Placed) → Member p c.cells → is_at table key p ≡ true → cell_of c table key ≡ Some p.version
placed-cell c r table key p there is = by-found (find (is_at table key) c.cells) refl where
  by-found : (o : Option Placed) → find (is_at table key) c.cells ≡ o → cell_of c table key ≡ Some p.version
  by-found None e = absurd (find-none (is_at table key) c.cells e p there is)
  by-found (Some q) e = let m = find-member (is_at table key) c.cells q e in let a = at-placed table key q m.1 in let b = at-placed table key p is in
      let same : q ≡ p = one-cell c.cells r.cells q p m.0 there (a.0 ∙ sym b.0, a.1 ∙ sym b.1) in
      ap (option_map (λ (p : Placed). p.version)) e ∙ ap (λ (z : Placed). Some z.version) same

-- ---- what is kept of a key

-- the test of an opening, at a table that is there
kept-at : (c : Content) (table : ℕ) (key : List ℕ) (p : Placed) → has_table c.tables table ≡ true → is_at table key p ≡ true → keeps_cell (recorded_mark c) p.version ≡ true → is_kept_version c p ≡ true
kept-at c table key p has is keeps = and_from (has_table c.tables p.table) (keeps_cell (recorded_mark c) p.version) (subst (λ n. has_table c.tables n ≡ true) (sym (at-placed table key p is).0) has) keeps

pub kept-keeps : (c : Content) (p : Placed) → is_kept_version c p ≡ true → keeps_cell (recorded_mark c) p.version ≡ true
kept-keeps c p is = (and_parts (has_table c.tables p.table) (keeps_cell (recorded_mark c) p.version) is).1

-- layered by its keys
pub key-layered : (c : Content) (table : ℕ) (key : List ℕ) → IsRegular c → IsLayered c → has_table c.tables table ≡ true → IsKeyLayered Older (keeps_cell (recorded_mark c)) (cell_of c table key) (Held (records_of c table key))
key-layered c table key r layered has v there keeps =
    let p = of-key-from table key c.records v there in let here = at-placed table key p.0 p.2 in
    let q = layered p.0 p.1 (kept-at c table key p.0 has p.2 (subst (λ (z : Version Change). keeps_cell (recorded_mark c) z ≡ true) p.3 keeps)) in
    let beside = at-placed p.0.table p.0.key q.0 q.2 in (
      q.0.version,
      placed-cell c r table key q.0 q.1 (at-there table key q.0 (beside.0 ∙ here.0) (beside.1 ∙ here.1)),
      subst (λ (z : Version Change). UpTo Older z q.0.version) (sym p.3) q.3,
    )

-- a record whose key and name are a cell's is that version
again-same : (c : Content) → IsRegular c → IsLayered c → (p q : Placed) → Member p c.records → is_kept_version c p ≡ true → Member q c.cells → is_again p q ≡ true → p.version ≡ q.version
again-same c r layered p q there keeps at again =
    let parts = and_parts (is_at q.table q.key p) (name_eq p.version.window.name q.version.window.name) again in
    let here = at-placed q.table q.key p parts.0 in
    let o = layered p there keeps in let beside = at-placed p.table p.key o.0 o.2 in
    let same : o.0 ≡ q = one-cell c.cells r.cells o.0 q o.1 at (beside.0 ∙ here.0, beside.1 ∙ here.1) in
    elim o.3 [
      | inl is ↦ is ∙ ap (λ (z : Placed). z.version) same
      | inr older ↦ absurd (not-older p.version.window.name q.version.window.name parts.1 (subst (λ (z : Placed). NameBelow p.version.window.name z.version.window.name) same older))
    ] where
      not-older : (x y : Name) → name_eq x y ≡ true → NameBelow x y → ⊥
      not-older x y e (inl less) = let s = and_parts (x.run == y.run) (x.id == y.id) e in let a = eqb-true x.run y.run s.0 in omega arith
      not-older x y e (inr less) = let s = and_parts (x.run == y.run) (x.id == y.id) e in let a = eqb-true x.id y.id s.1 in let l = less.1 in omega arith

pub key-content : (c : Content) (table : ℕ) (key : List ℕ) → IsRegular c → IsLayered c → has_table c.tables table ≡ true
    → IsKeyContent (keeps_cell (recorded_mark c)) (cell_of c table key) (Held (records_of c table key)) (of_key table key (descending placed_lt (kept c)))
key-content c table key r layered has = record {
  from = λ v there. let p = of-key-from table key (descending placed_lt (kept c)) v there in let k = kept-from c p.0 (member-descending placed_lt (kept c) p.0 p.1) in (
    elim k.0 [
      | inl cell ↦ inl (placed-cell c r table key p.0 cell p.2 ∙ ap Some (sym p.3))
      | inr record_at ↦ inr (subst (λ (z : Version Change). Member z (records_of c table key)) (sym p.3) (of-key-into table key c.records p.0 record_at p.2))
    ],
    subst (λ (z : Version Change). keeps_cell (recorded_mark c) z ≡ true) (sym p.3) (kept-keeps c p.0 k.1),
  );
  into = λ v held keeps. elim held [
    | inl cell ↦ let p = cell-placed c table key v cell in
        listed v p.0 p.2 p.3 (left p.0 (kept_cells c) _ (member-into (is_kept_version c) c.cells p.0 p.1 (kept-at c table key p.0 has p.2 (subst (λ (z : Version Change). keeps_cell (recorded_mark c) z ≡ true) p.3 keeps))))
    | inr record_at ↦ let p = of-key-from table key c.records v record_at in
        let is = kept-at c table key p.0 has p.2 (subst (λ (z : Version Change). keeps_cell (recorded_mark c) z ≡ true) p.3 keeps) in
        elim (cases_Bool (list_any (is_again p.0) (kept_cells c))) [
          | inl again ↦ let q = any-from (is_again p.0) (kept_cells c) again in let at = member-out (is_kept_version c) c.cells q.0 q.1 in
              let beside = at-placed q.0.table q.0.key p.0 (and_parts (is_at q.0.table q.0.key p.0) (name_eq p.0.version.window.name q.0.version.window.name) q.2).0 in let here = at-placed table key p.0 p.2 in
              listed v q.0 (at-there table key q.0 (sym beside.0 ∙ here.0) (sym beside.1 ∙ here.1)) (p.3 ∙ again-same c r layered p.0 q.0 p.1 is at.0 q.2) (left q.0 (kept_cells c) _ q.1)
          | inr new ↦ listed v p.0 p.2 p.3 (right p.0 (kept_cells c) (filter (is_other c) c.records)
              (member-into (is_other c) c.records p.0 p.1 (and_from (is_kept_version c p.0) (not (list_any (is_again p.0) (kept_cells c))) is (not-from (list_any (is_again p.0) (kept_cells c)) new))))
        ]
  ];
} where
  left : (p : Placed) (l rest : List Placed) → Member p l → Member p (l ++ rest)
  left p [] rest there = absurd there
  left p (x ∷ l) rest (inl same) = inl same
  left p (x ∷ l) rest (inr later) = inr (left p l rest later)

  right : (p : Placed) (l rest : List Placed) → Member p rest → Member p (l ++ rest)
  right p [] rest there = there
  right p (x ∷ l) rest there = inr (right p l rest there)

  not-from : (b : Bool) → b ≡ false → not b ≡ true
  not-from b e = rw e refl

  listed : (v : Version Change) (p : Placed) → is_at table key p ≡ true → v ≡ p.version → Member p (kept c) → Member v (of_key table key (descending placed_lt (kept c)))
  listed v p is same there = subst (λ (z : Version Change). Member z (of_key table key (descending placed_lt (kept c)))) (sym same) (of-key-into table key (descending placed_lt (kept c)) p (descending-member placed_lt (kept c) p there) is)

-- the records that an opening keeps
kept-records : (c : Content) (table : ℕ) (key : List ℕ) (v : Version Change) → has_table c.tables table ≡ true → Member v (records_of c table key) → keeps_cell (recorded_mark c) v ≡ true → Member v (kept_records_of c table key)
kept-records c table key v has there keeps = let p = of-key-from table key c.records v there in
    subst (λ (z : Version Change). Member z (kept_records_of c table key)) (sym p.3) (of-key-into table key (filter (is_kept_version c) c.records) p.0
    (member-into (is_kept_version c) c.records p.0 p.1 (kept-at c table key p.0 has p.2 (subst (λ (z : Version Change). keeps_cell (recorded_mark c) z ≡ true) p.3 keeps))) p.2)

records-kept : (c : Content) (table : ℕ) (key : List ℕ) (v : Version Change) → Member v (kept_records_of c table key) → Member v (records_of c table key) × (keeps_cell (recorded_mark c) v ≡ true)
records-kept c table key v there = let p = of-key-from table key (filter (is_kept_version c) c.records) v there in let o = member-out (is_kept_version c) c.records p.0 p.1 in (
  subst (λ (z : Version Change). Member z (records_of c table key)) (sym p.3) (of-key-into table key c.records p.0 o.0 p.2),
  subst (λ (z : Version Change). keeps_cell (recorded_mark c) z ≡ true) (sym p.3) (kept-keeps c p.0 o.1),
)

-- ---- an opening

pub starts-stand : StartsStand
starts-stand c table key r layered has = record {
  stores = subst (λ l. Stores Older (covers (start c)) l (KeptOf keeps (In cell)) (Held (kept_records_of c table key))) (sym (line-base (descending table_lt c.tables) (descending placed_lt (kept c)) table key))
      (stores-alike Older (covers (start c)) (of_key table key (descending placed_lt (kept c))) (λ v. In cell v × (keeps v ≡ true)) (λ v. Member v (records_of c table key) × (keeps v ≡ true)) (KeptOf keeps (In cell)) (Held (kept_records_of c table key))
      (λ v f. f) (λ v f. f) (λ v h. kept-records c table key v has h.0 h.1) (records-kept c table key)
      (opened-stands Older (covers (start c)) keeps (of_key table key (descending placed_lt (kept c))) cell (Held (records_of c table key)) older-order (key-content c table key r layered has) (key-layered c table key r layered has)));
  filtered = λ v h. (records-kept c table key v h).1;
  layered = λ v h. let o = records-kept c table key v h in key-layered c table key r layered has v o.0 o.1;
  ended = λ v there s t at. absurd (no-seat s t at);
  free = λ s t wrote. absurd (no-seat s t wrote.0);
  bound = omega arith;
} where
  keeps : Version Change → Bool
  keeps v = keeps_cell (recorded_mark c) v

  cell : Option (Version Change)
  cell = cell_of c table key
