-- The list of the leaves in order, by the slots and the order of a directory.
use Rattle.std.proofs.Common.{◌≡◌, ℕ, zero, suc, ◌+◌, ◌<◌, ◌≤◌, false, List, [], ◌∷◌, length, get_or, Option, Some, None, refl, sym, ap, subst, ◌∙◌, inl, inr, arith}
use Rattle.std.specs.Prelude.{slice_get, nat_eq}
use Rattle.std.specs.Ordering.{nat_cmp}
use Rattle.std.specs.Cmp.Lexicographic.{slice_cmp}
use Rattle.std.specs.List.Sorted.{IsPartitionPoint}
use Rattle.std.specs.declared.cmp.Ordering.TheVariants.{Less, Greater}
use Rattle.std.proofs.lemmas.Bool.{cases_lt, cases_eq, cases_Bool, eq-eqb, ne_eqb, eqb-true, false_from_ne_true}
use Rattle.std.proofs.lemmas.Option.{same_Some}
use Rattle.std.proofs.lemmas.List.Elements.{at_from_Contains}
use Rattle.tree_dir.specs.declared.leaf.Leaf.{Leaf}
use Rattle.tree_dir.specs.Leaves.{begins_by, leaf_ahead, leaf_behind, leaf_named, leaf_under, of_table, place_key}
use Rattle.tree_dir.specs.Order.{IsWay, not_above, rank_at, rank_order}
use Rattle.tree_dir.specs.Slots.{home_of, if_named, if_of_table, leaf_at, leaf_by_id, leaves_at, no_leaf}
use Rattle.tree_dir.specs.Sound.{AreHome}
use Rattle.tree_dir.proofs.Index.{order-once}
use Rattle.tree_dir.proofs.KeyOrder.{begins-from, begins-not-above, begins-table, is-greater, not-greater, tables-less, tables-up}
use Rattle.tree_dir.proofs.Looking.{ahead-at, ahead-none, behind-at, behind-none, named-at, named-none, under-at, under-none}
use Rattle.tree_dir.proofs.SlotLemmas.{there, view-at, view-long, view-rank, view-slot}

-- the leaf at a place of the order
abbrev pub nth : List Leaf → List ℕ → ℕ → Leaf
nth slots order k = leaf_at slots (get_or order k 0)

-- ---- ids

pub ids-once : (slots : List Leaf) (order : List ℕ) (p q : ℕ) → IsWay slots order → AreHome slots → p < q → q < length order → (nth slots order p).id ≡ (nth slots order q).id → ⊥
ids-once slots order p q ix home lt within e =
    order-once slots order p q ix lt within
    (sym (home (get_or order p 0) (view-slot slots order p ix (omega (arith, lt, within)))) ∙ (ap home_of e ∙ home (get_or order q 0) (view-slot slots order q ix within)))

-- the same of two places, in either order
pub ids-differ : (slots : List Leaf) (order : List ℕ) (p q : ℕ) → IsWay slots order → AreHome slots → p < length order → q < length order → (p ≡ q → ⊥) → (nth slots order p).id ≡ (nth slots order q).id → ⊥
ids-differ slots order p q ix home here there n e = elim (cases_lt p q) [
  | inl lt ↦ ids-once slots order p q ix home lt there e
  | inr ge ↦ elim (cases_lt q p) [
    | inl lt ↦ ids-once slots order q p ix home lt here (sym e)
    | inr le ↦ n (omega (arith, ge, le))
  ]
]

named-place : (slots : List Leaf) (order : List ℕ) (r : ℕ) → IsWay slots order → AreHome slots → r < length order → leaf_named (nth slots order r).id (leaves_at slots order) ≡ Some (nth slots order r)
named-place slots order r ix home lt =
    let long = view-long slots order in
    named-at (nth slots order r).id (leaves_at slots order) r no_leaf (omega (arith, lt, long))
    (λ k l e. ids-once slots order k r ix home l lt (sym (ap (λ (m : Leaf). m.id) (view-at slots order k no_leaf (omega (arith, l, lt)))) ∙ e))
    (ap (λ (m : Leaf). m.id) (view-at slots order r no_leaf lt))
    ∙ ap (λ (m : Leaf). Some m) (view-at slots order r no_leaf lt)

pub named-slot : (slots : List Leaf) (order : List ℕ) (i : ℕ) → IsWay slots order → AreHome slots → i < length slots → leaf_named (leaf_at slots i).id (leaves_at slots order) ≡ Some (leaf_at slots i)
named-slot slots order i ix home lt =
    let a = at_from_Contains order i (ix.whole i lt) in
    subst (λ (j : ℕ). leaf_named (leaf_at slots j).id (leaves_at slots order) ≡ Some (leaf_at slots j)) (a.2 0) (named-place slots order a.0 ix home a.1)

-- where no slot has the id, no place has it
pub place-id : (slots : List Leaf) (order : List ℕ) (k id : ℕ) → IsWay slots order → AreHome slots → k < length order → (get_or (leaves_at slots order) k no_leaf).id ≡ id → (home_of id < length slots) × ((leaf_at slots (home_of id)).id ≡ id)
place-id slots order k id ix home lt e =
    let here = sym (ap (λ (m : Leaf). m.id) (view-at slots order k no_leaf lt)) ∙ e in
    let i = get_or order k 0 in
    let within = view-slot slots order k ix lt in
    let same : home_of id ≡ i = sym (ap home_of here) ∙ home i within in
    (omega (arith, same, within), subst (λ (j : ℕ). (leaf_at slots j).id ≡ id) (sym same) here)

nothing : (slots : List Leaf) (i : ℕ) → length slots ≤ i → slice_get slots i ≡ None
nothing [] i le = refl
nothing (x ∷ slots) zero le = absurd (omega arith)
nothing (x ∷ slots) (suc i) le = nothing slots i (omega arith)

abbrev pub Missing : List Leaf → ℕ → Type 0
Missing slots id = home_of id < length slots → (leaf_at slots (home_of id)).id ≡ id → ⊥

pub missing-place : (slots : List Leaf) (order : List ℕ) (id : ℕ) → IsWay slots order → AreHome slots → Missing slots id → (k : ℕ) → k < length order → (get_or (leaves_at slots order) k no_leaf).id ≡ id → ⊥
missing-place slots order id ix home none k lt e = let p = place-id slots order k id ix home lt e in none p.0 p.1

pub missing-named : (slots : List Leaf) (order : List ℕ) (id : ℕ) → IsWay slots order → AreHome slots → Missing slots id → leaf_named id (leaves_at slots order) ≡ None
missing-named slots order id ix home none =
    let long = view-long slots order in
    named-none id (leaves_at slots order) no_leaf (λ k lt. missing-place slots order id ix home none k (omega (arith, lt, long)))

-- what a look-up by id tells
pub by-id-some : (slots : List Leaf) (id : ℕ) (l : Leaf) → leaf_by_id id slots ≡ Some l → (home_of id < length slots) × (leaf_at slots (home_of id) ≡ l) × ((leaf_at slots (home_of id)).id ≡ id)
by-id-some slots id l e = elim (cases_lt (home_of id) (length slots)) [
  | inl lt ↦
      let at = leaf_at slots (home_of id) in
      let here = sym (ap (if_named id) (there slots (home_of id) lt)) ∙ e in
      elim (cases_Bool (nat_eq at.id id)) [
        | inl t ↦ (lt, same_Some at l (rw t at here), eqb-true at.id id t)
        | inr f ↦ let clash = rw f at here in absurd cc
      ]
  | inr ge ↦ let clash = sym (ap (if_named id) (nothing slots (home_of id) ge)) ∙ e in absurd cc
]

pub by-id-none : (slots : List Leaf) (id : ℕ) → leaf_by_id id slots ≡ None → Missing slots id
by-id-none slots id e lt same =
    let at = leaf_at slots (home_of id) in
    let here = sym (ap (if_named id) (there slots (home_of id) lt)) ∙ e in
    let clash = rw (eq-eqb at.id id same) at here in absurd cc

pub by-id : (slots : List Leaf) (order : List ℕ) (id : ℕ) → IsWay slots order → AreHome slots → leaf_by_id id slots ≡ leaf_named id (leaves_at slots order)
by-id slots order id ix home = go (leaf_by_id id slots) refl where
  go : (o : Option Leaf) → leaf_by_id id slots ≡ o → o ≡ leaf_named id (leaves_at slots order)
  go None e = sym (missing-named slots order id ix home (by-id-none slots id e))
  go (Some l) e =
      let p = by-id-some slots id l e in
      sym (subst (λ (m : Leaf). leaf_named id (leaves_at slots order) ≡ Some m) p.1
      (subst (λ (n : ℕ). leaf_named n (leaves_at slots order) ≡ Some (leaf_at slots (home_of id))) p.2 (named-slot slots order (home_of id) ix home p.0)))

-- ---- beside a leaf

-- the leaf of a slot, where it is of the table
pub of-slot : (slots : List Leaf) (table i : ℕ) → i < length slots → if_of_table table (slice_get slots i) ≡ of_table table (leaf_at slots i)
of-slot slots table i lt = ap (if_of_table table) (there slots i lt)

pub view-behind : (slots : List Leaf) (order : List ℕ) (r : ℕ) → IsWay slots order → AreHome slots → suc r < length order → leaf_behind (nth slots order r).id (leaves_at slots order) ≡ of_table (nth slots order r).table (nth slots order (suc r))
view-behind slots order r ix home lt =
    let long = view-long slots order in
    let here = view-at slots order r no_leaf (omega arith) in
    let next = view-at slots order (suc r) no_leaf lt in
    behind-at (nth slots order r).id (leaves_at slots order) r no_leaf (omega (arith, lt, long))
    (λ k l e. ids-once slots order k r ix home l (omega arith) (sym (ap (λ (m : Leaf). m.id) (view-at slots order k no_leaf (omega (arith, l, lt)))) ∙ e))
    (ap (λ (m : Leaf). m.id) here)
    ∙ (ap (λ (m : Leaf). of_table m.table (get_or (leaves_at slots order) (suc r) no_leaf)) here ∙ ap (of_table (nth slots order r).table) next)

pub view-last : (slots : List Leaf) (order : List ℕ) (r : ℕ) → IsWay slots order → AreHome slots → suc r ≡ length order → leaf_behind (nth slots order r).id (leaves_at slots order) ≡ None
view-last slots order r ix home end =
    let long = view-long slots order in
    behind-none (nth slots order r).id (leaves_at slots order) no_leaf
    (λ k l e. ids-once slots order k r ix home (omega (arith, l, long, end)) (omega (arith, end)) (sym (ap (λ (m : Leaf). m.id) (view-at slots order k no_leaf (omega (arith, l, long, end)))) ∙ e))

pub view-ahead : (slots : List Leaf) (order : List ℕ) (r : ℕ) → IsWay slots order → AreHome slots → suc r < length order → leaf_ahead (nth slots order (suc r)).id (leaves_at slots order) ≡ of_table (nth slots order (suc r)).table (nth slots order r)
view-ahead slots order r ix home lt =
    let long = view-long slots order in
    let here = view-at slots order r no_leaf (omega arith) in
    let next = view-at slots order (suc r) no_leaf lt in
    ahead-at (nth slots order (suc r)).id (leaves_at slots order) r no_leaf (omega (arith, lt, long))
    (λ k l e. ids-once slots order (suc k) (suc r) ix home (omega arith) lt (sym (ap (λ (m : Leaf). m.id) (view-at slots order (suc k) no_leaf (omega (arith, l, lt)))) ∙ e))
    (ap (λ (m : Leaf). m.id) next)
    ∙ (ap (λ (m : Leaf). of_table m.table (get_or (leaves_at slots order) r no_leaf)) next ∙ ap (of_table (nth slots order (suc r)).table) here)

pub view-first : (slots : List Leaf) (order : List ℕ) (r : ℕ) → IsWay slots order → AreHome slots → r ≡ 0 → r < length order → leaf_ahead (nth slots order r).id (leaves_at slots order) ≡ None
view-first slots order r ix home start lt =
    let long = view-long slots order in
    ahead-none (nth slots order r).id (leaves_at slots order) no_leaf
    (λ k l e. ids-once slots order r (suc k) ix home (omega (arith, start)) (omega (arith, l, long)) (sym (sym (ap (λ (m : Leaf). m.id) (view-at slots order (suc k) no_leaf (omega (arith, l, long)))) ∙ e)))

-- what is told of the slot behind or before
pub behind-slot : (slots : List Leaf) (order : List ℕ) (i r e table : ℕ) → IsWay slots order → AreHome slots → get_or order r 0 ≡ i → suc r < length order → e ≡ get_or order (suc r) 0 → table ≡ (leaf_at slots i).table → if_of_table table (slice_get slots e) ≡ leaf_behind (leaf_at slots i).id (leaves_at slots order)
behind-slot slots order i r e table ix home at lt is its =
    ap (λ (k : ℕ). if_of_table table (slice_get slots k)) is
    ∙ (of-slot slots table (get_or order (suc r) 0) (view-slot slots order (suc r) ix lt)
    ∙ (ap (λ (t : ℕ). of_table t (nth slots order (suc r))) (its ∙ sym (ap (λ (k : ℕ). (leaf_at slots k).table) at))
    ∙ (sym (view-behind slots order r ix home lt) ∙ ap (λ (k : ℕ). leaf_behind (leaf_at slots k).id (leaves_at slots order)) at)))

pub ahead-slot : (slots : List Leaf) (order : List ℕ) (i r e table : ℕ) → IsWay slots order → AreHome slots → get_or order (suc r) 0 ≡ i → suc r < length order → e ≡ get_or order r 0 → table ≡ (leaf_at slots i).table → if_of_table table (slice_get slots e) ≡ leaf_ahead (leaf_at slots i).id (leaves_at slots order)
ahead-slot slots order i r e table ix home at lt is its =
    ap (λ (k : ℕ). if_of_table table (slice_get slots k)) is
    ∙ (of-slot slots table (get_or order r 0) (view-slot slots order r ix (omega arith))
    ∙ (ap (λ (t : ℕ). of_table t (nth slots order r)) (its ∙ sym (ap (λ (k : ℕ). (leaf_at slots k).table) at))
    ∙ (sym (view-ahead slots order r ix home lt) ∙ ap (λ (k : ℕ). leaf_ahead (leaf_at slots k).id (leaves_at slots order)) at)))

-- no leaf is beside one that is not there
pub missing-behind : (slots : List Leaf) (order : List ℕ) (id : ℕ) → IsWay slots order → AreHome slots → Missing slots id → leaf_behind id (leaves_at slots order) ≡ None
missing-behind slots order id ix home none =
    let long = view-long slots order in
    behind-none id (leaves_at slots order) no_leaf (λ k lt. missing-place slots order id ix home none k (omega (arith, lt, long)))

pub missing-ahead : (slots : List Leaf) (order : List ℕ) (id : ℕ) → IsWay slots order → AreHome slots → Missing slots id → leaf_ahead id (leaves_at slots order) ≡ None
missing-ahead slots order id ix home none =
    let long = view-long slots order in
    ahead-none id (leaves_at slots order) no_leaf (λ k lt. missing-place slots order id ix home none (suc k) (omega (arith, lt, long)))

-- ---- under a key

abbrev Parts : List Leaf → List ℕ → ℕ → List ℕ → ℕ → Type 0
Parts slots order table key r = IsPartitionPoint (λ i. not_above (rank_order slots (table ∷ key) i) ≡ Less) (λ i. not_above (rank_order slots (table ∷ key) i) ≡ Greater) order r

-- from the gap on, no leaf begins by the key
past-gap : (slots : List Leaf) (order : List ℕ) (table : ℕ) (key : List ℕ) (r k : ℕ) → IsWay slots order → Parts slots order table key r → r ≤ k → k < length order → begins_by table key (get_or (leaves_at slots order) k no_leaf) ≡ false
past-gap slots order table key r k ix parts le lt =
    let greater = is-greater (rank_order slots (table ∷ key) (get_or order k 0)) (parts.1 k 0 le lt) in
    let place = ap (λ (p : List ℕ). slice_cmp nat_cmp p (table ∷ key)) (sym (view-rank slots order k ix lt)) ∙ greater in
    ap (begins_by table key) (view-at slots order k no_leaf lt)
    ∙ false_from_ne_true (begins_by table key (nth slots order k)) (λ b. begins-not-above table key (nth slots order k) b place)

before-gap : (slots : List Leaf) (order : List ℕ) (table : ℕ) (key : List ℕ) (r k : ℕ) → IsWay slots order → Parts slots order table key r → k < r → k < length order → slice_cmp nat_cmp (place_key (nth slots order k)) (table ∷ key) ≡ Greater → ⊥
before-gap slots order table key r k ix parts lt within g =
    not-greater (rank_order slots (table ∷ key) (get_or order k 0)) (parts.0 k 0 (omega arith) lt)
    (ap (λ (p : List ℕ). slice_cmp nat_cmp p (table ∷ key)) (view-rank slots order k ix within) ∙ g)

pub under-start : (slots : List Leaf) (order : List ℕ) (table : ℕ) (key : List ℕ) (r : ℕ) → IsWay slots order → Parts slots order table key r → r ≡ 0 → leaf_under table key (leaves_at slots order) ≡ None
under-start slots order table key r ix parts start =
    let long = view-long slots order in
    under-none table key (leaves_at slots order) no_leaf (λ k lt. past-gap slots order table key r k ix parts (omega (arith, start)) (omega (arith, lt, long)))

-- a leaf before the last one below the gap is of no greater table
pub places-rise : (slots : List Leaf) (order : List ℕ) (k q : ℕ) → IsWay slots order → k < q → q < length order → slice_cmp nat_cmp (place_key (nth slots order k)) (place_key (nth slots order q)) ≡ Less
places-rise slots order k q ix lt within =
    let up = ix.ascends k q 0 lt within in
    let at = ap (λ (p : List ℕ). slice_cmp nat_cmp p (rank_at slots (get_or order q 0))) (sym (view-rank slots order k ix (omega (arith, lt, within)))) ∙ up in
    ap (λ (p : List ℕ). slice_cmp nat_cmp (place_key (nth slots order k)) p) (sym (view-rank slots order q ix within)) ∙ at

pub tables-rise : (slots : List Leaf) (order : List ℕ) (k q : ℕ) → IsWay slots order → k < q → q < length order → (nth slots order k).table ≤ (nth slots order q).table
tables-rise slots order k q ix lt within = tables-less (nth slots order k).table (nth slots order q).table (nth slots order k).entry.key (nth slots order q).entry.key (places-rise slots order k q ix lt within)

no-other : (slots : List Leaf) (order : List ℕ) (table : ℕ) (key : List ℕ) (r q k : ℕ) → IsWay slots order → Parts slots order table key r → q + 1 ≡ r → q < length order → ((nth slots order q).table ≡ table → ⊥) → k < length order → begins_by table key (get_or (leaves_at slots order) k no_leaf) ≡ false
no-other slots order table key r q k ix parts end within other lt = elim (cases_lt k r) [
  | inr ge ↦ past-gap slots order table key r k ix parts ge lt
  | inl below ↦
      ap (begins_by table key) (view-at slots order k no_leaf lt)
      ∙ false_from_ne_true (begins_by table key (nth slots order k)) (λ b.
      let here = begins-table table key (nth slots order k) b in
      let most = tables-up (nth slots order q).table table (nth slots order q).entry.key key (before-gap slots order table key r q ix parts (omega (arith, end)) within) in
      elim (cases_lt k q) [
        | inl l ↦ let least = tables-rise slots order k q ix l within in other (omega (arith, most, least, here))
        | inr g ↦
            let e : k ≡ q = omega (arith, g, below, end) in
            other (subst (λ (n : ℕ). (nth slots order n).table ≡ table) e here)
      ])
]

pub under-gap : (slots : List Leaf) (order : List ℕ) (table : ℕ) (key : List ℕ) (r q : ℕ) → IsWay slots order → Parts slots order table key r → q + 1 ≡ r → q < length order → leaf_under table key (leaves_at slots order) ≡ of_table table (nth slots order q)
under-gap slots order table key r q ix parts end within =
    let long = view-long slots order in
    let leaf = nth slots order q in
    elim (cases_eq leaf.table table) [
      | inl same ↦
          let begins = begins-from table key leaf same (before-gap slots order table key r q ix parts (omega (arith, end)) within) in
          let at = view-at slots order q no_leaf within in
          under-at table key (leaves_at slots order) q no_leaf (omega (arith, within, long)) (ap (begins_by table key) at ∙ begins)
          (λ k lt l. past-gap slots order table key r k ix parts (omega (arith, lt, end)) (omega (arith, l, long)))
          ∙ (ap (λ (m : Leaf). Some m) at ∙ rw (eq-eqb leaf.table table same) refl)
      | inr other ↦
          under-none table key (leaves_at slots order) no_leaf (λ k l. no-other slots order table key r q k ix parts end within other (omega (arith, l, long)))
          ∙ rw (ne_eqb leaf.table table other) refl
    ]
