-- The last leaf of a table, by the slots and the order of a directory; and how long the order is.
use Rattle.std.proofs.Common.{◌≡◌, ◌≢◌, ℕ, suc, ◌+◌, ◌<◌, ◌≤◌, Bool, true, false, List, length, get_or, Option, Some, None, refl, sym, ap, subst, ◌∙◌, inl, inr, arith}
use Rattle.std.specs.Prelude.{slice_get, nat_lt, if◌then◌else◌}
use Rattle.std.specs.Ordering.{ordering_index}
use Rattle.std.specs.List.Sorted.{IsPartitionPoint}
use Rattle.std.specs.declared.cmp.Ordering.{Ordering}
use Rattle.std.specs.declared.cmp.Ordering.TheVariants.{Less, Equal, Greater}
use Rattle.std.proofs.lemmas.Bool.{cases_lt, cases_eq, cases_Bool, eq-eqb, eqb-true, ne_eqb, lt-ltb, ltb-true, ltb-false, le-ltb}
use Rattle.std.proofs.lemmas.Bool.Decides.{Decides-eqb}
use Rattle.std.proofs.lemmas.List.{get_or_default}
use Rattle.std.proofs.lemmas.Map.Made.{IsDistinct-from_AllPairs}
use Rattle.std.proofs.lemmas.Map.Steps.{length-le_from_distinct_below}
use Rattle.std.proofs.lemmas.Map.Views.{Contains-from_any}
use Rattle.ordered_groups.specs.Places.{Rises}
use Rattle.tree_dir.specs.declared.leaf.Leaf.{Leaf}
use Rattle.tree_dir.specs.Leaves.{leaf_last, of_table}
use Rattle.tree_dir.specs.Order.{IsWay, table_order}
use Rattle.tree_dir.specs.Slots.{leaf_at, leaves_at, no_leaf}
use Rattle.tree_dir.proofs.Index.{order-once}
use Rattle.tree_dir.proofs.Looking.{last-at, last-none}
use Rattle.tree_dir.proofs.SlotLemmas.{there, view-at, view-long, view-slot}
use Rattle.tree_dir.proofs.ViewLemmas.{nth, tables-rise}

-- ---- the order of tables

pub never-equal : (table : ℕ) (o : Option Leaf) → table_order table o ≡ Equal → ⊥
never-equal table None e = absurd cc
never-equal table (Some l) e = by (nat_lt table l.table) e where
  by : (b : Bool) → (if b then Greater else Less) ≡ Equal → ⊥
  by true e = absurd cc
  by false e = absurd cc

above : (table : ℕ) (l : Leaf) → table_order table (Some l) ≡ Greater → table < l.table
above table l e = elim (cases_Bool (nat_lt table l.table)) [
  | inl t ↦ ltb-true table l.table t
  | inr f ↦ let clash = rw f at e in absurd cc
]

not-above : (table : ℕ) (l : Leaf) → table_order table (Some l) ≡ Less → l.table ≤ table
not-above table l e = elim (cases_Bool (nat_lt table l.table)) [
  | inl t ↦ let clash = rw t at e in absurd cc
  | inr f ↦ ltb-false table l.table f
]

index-up : (table : ℕ) (a b : Leaf) → a.table ≤ b.table → ordering_index (table_order table (Some a)) ≤ ordering_index (table_order table (Some b))
index-up table a b le = elim (cases_lt table b.table) [
  | inl lt ↦ rw (lt-ltb table b.table lt) (most (nat_lt table a.table))
  | inr ge ↦ rw (le-ltb table b.table ge, le-ltb table a.table (omega arith)) (omega arith)
] where
  most : (c : Bool) → ordering_index (if c then Greater else Less) ≤ ordering_index Greater
  most true = omega arith
  most false = omega arith

pub rises-tables : (slots : List Leaf) (order : List ℕ) (table : ℕ) → IsWay slots order → Rises (λ i. table_order table (slice_get slots i)) order
rises-tables slots order table ix i j d le lt = elim (cases_lt i j) [
  | inl l ↦
      let here = slot i (omega arith) in
      let later = slot j lt in
      let up = index-up table (nth slots order i) (nth slots order j) (tables-rise slots order i j ix l lt) in
      omega (arith, up, here, later)
  | inr g ↦
      let e : i ≡ j = omega (arith, le, g) in
      let same = ap (λ (k : ℕ). ordering_index (table_order table (slice_get slots (get_or order k d)))) e in
      omega (arith, same)
] where
  slot : (k : ℕ) → k < length order → ordering_index (table_order table (slice_get slots (get_or order k d))) ≡ ordering_index (table_order table (Some (nth slots order k)))
  slot k within =
      ap (λ (n : ℕ). ordering_index (table_order table (slice_get slots n))) (get_or_default order k d 0 within)
      ∙ ap (λ (o : Option Leaf). ordering_index (table_order table o)) (there slots (get_or order k 0) (view-slot slots order k ix within))

-- ---- by the gap behind a table

abbrev pub Parts : List Leaf → List ℕ → ℕ → ℕ → Type 0
Parts slots order table r = IsPartitionPoint (λ i. table_order table (slice_get slots i) ≡ Less) (λ i. table_order table (slice_get slots i) ≡ Greater) order r

past : (slots : List Leaf) (order : List ℕ) (table r k : ℕ) → IsWay slots order → Parts slots order table r → r ≤ k → k < length order → table < (nth slots order k).table
past slots order table r k ix parts le lt =
    above table (nth slots order k) (sym (ap (table_order table) (there slots (get_or order k 0) (view-slot slots order k ix lt))) ∙ parts.1 k 0 le lt)

not-past : (slots : List Leaf) (order : List ℕ) (table r k : ℕ) → IsWay slots order → Parts slots order table r → k < r → k < length order → (nth slots order k).table ≤ table
not-past slots order table r k ix parts lt within =
    not-above table (nth slots order k) (sym (ap (table_order table) (there slots (get_or order k 0) (view-slot slots order k ix within))) ∙ parts.0 k 0 (omega arith) lt)

table-at : (slots : List Leaf) (order : List ℕ) (k : ℕ) → k < length order → (get_or (leaves_at slots order) k no_leaf).table ≡ (nth slots order k).table
table-at slots order k lt = ap (λ (l : Leaf). l.table) (view-at slots order k no_leaf lt)

pub last-start : (slots : List Leaf) (order : List ℕ) (table r : ℕ) → IsWay slots order → Parts slots order table r → r ≡ 0 → leaf_last table (leaves_at slots order) ≡ None
last-start slots order table r ix parts start =
    let long = view-long slots order in
    last-none table (leaves_at slots order) no_leaf (λ k lt e.
    let within : k < length order = omega (arith, lt, long) in
    let far = past slots order table r k ix parts (omega (arith, start)) within in
    let same = table-at slots order k within in
    absurd (omega (arith, far, same, e)))

pub last-gap : (slots : List Leaf) (order : List ℕ) (table r q : ℕ) → IsWay slots order → Parts slots order table r → q + 1 ≡ r → q < length order → leaf_last table (leaves_at slots order) ≡ of_table table (nth slots order q)
last-gap slots order table r q ix parts end within =
    let long = view-long slots order in
    let leaf = nth slots order q in
    let at = view-at slots order q no_leaf within in
    elim (cases_eq leaf.table table) [
      | inl same ↦
          last-at table (leaves_at slots order) q no_leaf (omega (arith, within, long)) (table-at slots order q within ∙ same)
          (λ k lt l e.
          let inside : k < length order = omega (arith, l, long) in
          let far = past slots order table r k ix parts (omega (arith, lt, end)) inside in
          let its = table-at slots order k inside in
          absurd (omega (arith, far, its, e)))
          ∙ (ap (λ (m : Leaf). Some m) at ∙ rw (eq-eqb leaf.table table same) refl)
      | inr other ↦
          last-none table (leaves_at slots order) no_leaf (λ k l e.
          let inside : k < length order = omega (arith, l, long) in
          let its = table-at slots order k inside in
          let low = not-past slots order table r q ix parts (omega (arith, end)) within in
          elim (cases_lt k r) [
            | inr ge ↦ let far = past slots order table r k ix parts ge inside in absurd (omega (arith, far, its, e))
            | inl below ↦ elim (cases_lt k q) [
              | inl lt ↦ let up = tables-rise slots order k q ix lt within in other (omega (arith, up, its, e, low))
              | inr g ↦
                  let here : k ≡ q = omega (arith, g, below, end) in
                  other (subst (λ (n : ℕ). (nth slots order n).table ≡ table) here (sym its ∙ e))
            ]
          ])
          ∙ rw (ne_eqb leaf.table table other) refl
    ]

-- ---- how many there are

-- the order names no more slots than there are
pub order-few : (slots : List Leaf) (order : List ℕ) → IsWay slots order → length order ≤ length slots
order-few slots order ix =
    length-le_from_distinct_below order (length slots)
    (IsDistinct-from_AllPairs Decides-eqb order (λ i j d lt le e. order-once slots order i j ix lt le (get_or_default order i 0 d (omega arith) ∙ (e ∙ get_or_default order j d 0 le))))
    (λ q any. let c = Contains-from_any (λ x y e. eqb-true x y e) q order any in subst (λ (n : ℕ). n < length slots) c.2 (ix.within c.0 q c.1))
