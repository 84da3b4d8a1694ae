-- A number stands once exactly where the sorted numbers ascend strictly.
use Rattle.std.proofs.Common.{◌≡◌, ◌≢◌, ℕ, false, eqb, List, [], ◌∷◌, sym, ◌∙◌, inl, inr, arith}
use Rattle.std.specs.Prelude.{map}
use Rattle.std.specs.List.{AllByRecursion, IsDistinct}
use Rattle.std.specs.List.Sorted.{IsPermutation, IsSorted, IsStrictlyIncreasing}
use Rattle.std.specs.Ordering.{nat_cmp}
use Rattle.std.proofs.lemmas.Bool.{cases_eq, eq-eqb, eqb-false, ne_eqb}
use Rattle.std.proofs.lemmas.List.Sorted.{IsPermutation-sym, IsNonDecreasingBy-from_sort}
use Rattle.std.proofs.lemmas.Map.Keys.{IsDistinct-head, IsDistinct-tail, IsDistinct-from_apart, IsDistinct-IsPermutation, IsStrictlyIncreasing-from_distinct, sorted_from_strictly_increasing, below_from_sorted}
use Rattle.stored.specs.Records.{TableRoot, NumbersOnce}

abbrev pub numbers : List TableRoot → List ℕ
numbers tables = map {A = TableRoot} (λ t. t.table.number) tables

flips : (x y : ℕ) → eqb x y ≡ eqb y x
flips x y = elim (cases_eq x y) [
  | inl same ↦ eq-eqb x y same ∙ sym (eq-eqb y x (sym same))
  | inr other ↦ ne_eqb x y other ∙ sym (ne_eqb y x (λ e. other (sym e)))
]

up_distinct : (xs : List ℕ) → IsStrictlyIncreasing xs → IsDistinct eqb xs
up_distinct xs up = IsDistinct-from_apart eqb xs (λ i j d lt within. ne_eqb _ _ (λ e. omega (arith, below_from_sorted xs i j d (sorted_from_strictly_increasing xs up) lt within, e)))

other_there : (n : ℕ) (tables : List TableRoot) → AllByRecursion (λ (y : ℕ). eqb n y ≡ false) (numbers tables) → AllByRecursion (λ (u : TableRoot). u.table.number ≢ n) tables
other_there n [] all = tt
other_there n (u ∷ tables) all = (λ e. eqb-false n u.table.number all.0 (sym e), other_there n tables all.1)

other_here : (n : ℕ) (tables : List TableRoot) → AllByRecursion (λ (u : TableRoot). u.table.number ≢ n) tables → AllByRecursion (λ (y : ℕ). eqb n y ≡ false) (numbers tables)
other_here n [] all = tt
other_here n (u ∷ tables) all = (ne_eqb n u.table.number (λ e. all.0 (sym e)), other_here n tables all.1)

once_from : (tables : List TableRoot) → IsDistinct eqb (numbers tables) → NumbersOnce tables
once_from [] distinct = tt
once_from (t ∷ tables) distinct = (
  other_there t.table.number tables (IsDistinct-head eqb t.table.number (numbers tables) distinct),
  once_from tables (IsDistinct-tail eqb t.table.number (numbers tables) distinct),
)

once_distinct : (tables : List TableRoot) → NumbersOnce tables → IsDistinct eqb (numbers tables)
unfolding IsDistinct
once_distinct [] once = tt
once_distinct (t ∷ tables) once = (other_here t.table.number tables once.0, once_distinct tables once.1)

pub once_true : (tables : List TableRoot) (sorted : List ℕ) → IsPermutation (numbers tables) sorted → IsStrictlyIncreasing sorted → NumbersOnce tables
once_true tables sorted moved up = once_from tables (IsDistinct-IsPermutation eqb flips sorted (numbers tables) (IsPermutation-sym (numbers tables) sorted moved) (up_distinct sorted up))

pub once_is : (tables : List TableRoot) (sorted : List ℕ) → IsPermutation (numbers tables) sorted → IsSorted nat_cmp sorted → NumbersOnce tables → IsStrictlyIncreasing sorted
once_is tables sorted moved rises once =
    IsStrictlyIncreasing-from_distinct sorted (IsNonDecreasingBy-from_sort (λ (x : ℕ). x) sorted rises) (IsDistinct-IsPermutation eqb flips (numbers tables) sorted moved (once_distinct tables once))
