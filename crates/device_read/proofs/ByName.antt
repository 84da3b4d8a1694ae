-- A search among tables whose names ascend.
use Rattle.std.proofs.Common.{◌≡◌, ◌⊎◌, ℕ, zero, suc, ◌+◌, ◌<◌, Bool, true, false, List, [], ◌∷◌, length, take, drop, get_or, Some, None, refl, sym, ap, subst, ◌∙◌, inl, inr, arith}
use Rattle.std.specs.Prelude.{bytes_eq, not, slice_get}
use Rattle.std.specs.List.{AllByRecursion}
use Rattle.std.specs.Ordering.{is_lt, nat_cmp, ordering_reverse}
use Rattle.std.specs.Cmp.Lexicographic.{slice_cmp}
use Rattle.std.specs.declared.cmp.Ordering.TheVariants.{Equal, Greater, Less}
use Rattle.std.proofs.lemmas.Bool.{cases_Bool}
use Rattle.std.proofs.lemmas.Cmp.{nat_list_cmp_total}
use Rattle.std.proofs.lemmas.Map.Lookups.{exact_bytes}
use Rattle.kv_model.specs.History.{Table, named}
use Rattle.row_page.specs.Rows.{is_below}
use Rattle.row_page.proofs.Ascending.{above_differs, below_differs, below_trans}
use Rattle.reconcile.proofs.Keyed.{key_self}
use Rattle.inner_page.proofs.Halving.{Rises, holds_behind, not_upto}
use Rattle.stored.specs.Records.{TableRoot, TablesClimb}
use Rattle.stored.specs.Stored.{tables_of}

-- ---- halving

rises_above : (name : List ℕ) (roots : List TableRoot) → TablesClimb roots → Rises (λ (t : TableRoot). is_below name t.table.name) roots
rises_above name [] climb = tt
rises_above name (t ∷ []) climb = tt
rises_above name (t ∷ u ∷ roots) climb = ((λ above. below_trans name t.table.name u.table.name above climb.0), rises_above name (u ∷ roots) climb.1)

rises_from : (name : List ℕ) (roots : List TableRoot) → TablesClimb roots → Rises (λ (t : TableRoot). not (is_below t.table.name name)) roots
rises_from name [] climb = tt
rises_from name (t ∷ []) climb = tt
rises_from name (t ∷ u ∷ roots) climb = ((λ from. further from (cases_Bool (is_below u.table.name name))), rises_from name (u ∷ roots) climb.1)
  where
    further : not (is_below t.table.name name) ≡ true → (is_below u.table.name name ≡ true) ⊎ (is_below u.table.name name ≡ false) → not (is_below u.table.name name) ≡ true
    further from (inl is) = let no = rw (below_trans t.table.name u.table.name name climb.0 is) at from in absurd cc
    further from (inr isnt) = rw isnt refl

all_below : (name : List ℕ) (roots : List TableRoot) → AllByRecursion (λ (t : TableRoot). not (is_below t.table.name name) ≡ false) roots → AllByRecursion (λ (t : TableRoot). is_below t.table.name name ≡ true) roots
all_below name [] all = tt
all_below name (t ∷ roots) all = (turned (is_below t.table.name name) all.0, all_below name roots all.1)
  where
    turned : (b : Bool) → not b ≡ false → b ≡ true
    turned true is = refl
    turned false is = absurd cc

pub below_upto : (name : List ℕ) (roots : List TableRoot) (i : ℕ) (t : TableRoot) → TablesClimb roots → i < length roots → t ≡ get_or roots i t → slice_cmp nat_cmp t.table.name name ≡ Less → AllByRecursion (λ (u : TableRoot). is_below u.table.name name ≡ true) (take (i + 1) roots)
below_upto name roots i t climb lt is less =
    all_below name (take (i + 1) roots) (not_upto (λ (u : TableRoot). not (is_below u.table.name name)) roots i t (rises_from name roots climb) lt is (ap (λ o. not (is_lt o)) less))

pub above_from : (name : List ℕ) (roots : List TableRoot) (i : ℕ) (t : TableRoot) → TablesClimb roots → i < length roots → t ≡ get_or roots i t → slice_cmp nat_cmp t.table.name name ≡ Greater → AllByRecursion (λ (u : TableRoot). is_below name u.table.name ≡ true) (drop i roots)
above_from name roots i t climb lt is greater =
    holds_behind (λ (u : TableRoot). is_below name u.table.name) roots i t (rises_above name roots climb) lt is (ap is_lt (nat_list_cmp_total.antisymm name t.table.name ∙ ap ordering_reverse greater))

-- ---- what is found

first_below : (x : TableRoot) (roots : List TableRoot) (i : ℕ) (t : TableRoot) → TablesClimb (x ∷ roots) → i < length roots → t ≡ get_or roots i t → is_below x.table.name t.table.name ≡ true
first_below x [] i t climb lt is = absurd (omega (arith, lt))
first_below x (y ∷ roots) zero t climb lt is = subst (λ (u : TableRoot). is_below x.table.name u.table.name ≡ true) (sym is) climb.0
first_below x (y ∷ roots) (suc i) t climb lt is = below_trans x.table.name y.table.name t.table.name climb.0 (first_below y roots i t climb.1 (omega (arith, lt)) is)

climb_later : (x : TableRoot) (roots : List TableRoot) → TablesClimb (x ∷ roots) → TablesClimb roots
climb_later x [] climb = tt
climb_later x (y ∷ roots) climb = climb.1

found_at : (roots : List TableRoot) (i : ℕ) (t : TableRoot) → TablesClimb roots → i < length roots → t ≡ get_or roots i t → (slice_get (tables_of roots) i ≡ Some t.table) × (named t.table.name (tables_of roots) ≡ Some t.table)
found_at [] i t climb lt is = absurd (omega (arith, lt))
found_at (x ∷ roots) zero t climb lt is =
    let same : x.table ≡ t.table = ap (λ (u : TableRoot). u.table) (sym is) in
    (ap Some same, rw (subst (λ (u : Table). bytes_eq x.table.name u.name ≡ true) same (key_self x.table.name)) (ap Some same))
found_at (x ∷ roots) (suc i) t climb lt is =
    let rest = found_at roots i t (climb_later x roots climb) (omega (arith, lt)) is in
    (rest.0, rw (below_differs x.table.name t.table.name (first_below x roots i t climb (omega (arith, lt)) is)) rest.1)

pub found_named : (name : List ℕ) (roots : List TableRoot) (i : ℕ) (t : TableRoot) → TablesClimb roots → i < length roots → t ≡ get_or roots i t → slice_cmp nat_cmp t.table.name name ≡ Equal → (found : Table) × (slice_get (tables_of roots) i ≡ Some found) × (named name (tables_of roots) ≡ Some found)
found_named name roots i t climb lt is equal =
    let there = found_at roots i t climb lt is in
    (t.table, there.0, subst (λ (n : List ℕ). named n (tables_of roots) ≡ Some t.table) (exact_bytes t.table.name name equal) there.1)

pub none_named : (name : List ℕ) (roots : List TableRoot) (i : ℕ) → AllByRecursion (λ (t : TableRoot). is_below t.table.name name ≡ true) (take i roots) → AllByRecursion (λ (t : TableRoot). is_below name t.table.name ≡ true) (drop i roots) → named name (tables_of roots) ≡ None
none_named name [] i below above = refl
none_named name (t ∷ roots) zero below above = rw (above_differs t.table.name name above.0) (none_named name roots zero tt above.1)
none_named name (t ∷ roots) (suc i) below above = rw (below_differs t.table.name name below.0) (none_named name roots i below.1 above)
