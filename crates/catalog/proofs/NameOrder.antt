-- The order of names.
use Rattle.std.proofs.Common.{◌≡◌, ℕ, true, false, List, refl, sym, ap, subst, ◌∙◌, inl, inr}
use Rattle.std.specs.Prelude.{bytes_eq}
use Rattle.std.specs.Ordering.{nat_cmp, is_lt, ordering_reverse}
use Rattle.std.specs.Cmp.Lexicographic.{slice_cmp}
use Rattle.std.specs.declared.cmp.Ordering.{Ordering}
use Rattle.std.specs.declared.cmp.Ordering.TheVariants.{Less, Equal, Greater}
use Rattle.std.proofs.lemmas.Cmp.{nat_list_cmp_total}
use Rattle.std.proofs.lemmas.Map.Lookups.{exact_bytes}
use Rattle.std.proofs.lemmas.Bool.{cases_Bool, both_ways}
use Rattle.std.proofs.lemmas.Slice.Eq.{bytes_eq-Decides}
use Rattle.catalog.specs.Known.{is_below}

less_is : (o : Ordering) → is_lt o ≡ true → o ≡ Less
less_is Less e = refl
less_is Equal e = absurd cc
less_is Greater e = absurd cc

pub below_trans : (x y z : List ℕ) → is_below x y ≡ true → is_below y z ≡ true → is_below x z ≡ true
below_trans x y z p q = ap is_lt (nat_list_cmp_total.trans x y z (less_is (slice_cmp nat_cmp x y) p) (less_is (slice_cmp nat_cmp y z) q))

pub below_self : (x : List ℕ) → is_below x x ≡ true → ⊥
below_self x p = by (slice_cmp nat_cmp x x) (nat_list_cmp_total.antisymm x x) p where
  by : (r : Ordering) → r ≡ ordering_reverse r → is_lt r ≡ true → ⊥
  by Less e q = absurd cc
  by Equal e q = absurd cc
  by Greater e q = absurd cc

-- of two names one is below, or they are the same
pub names_part : (x y : List ℕ) → is_below x y ≡ false → bytes_eq x y ≡ false → is_below y x ≡ true
names_part x y p q = by (slice_cmp nat_cmp x y) refl where
  by : (r : Ordering) → slice_cmp nat_cmp x y ≡ r → is_below y x ≡ true
  by Less e = absurd (both_ways (is_below x y) p (ap is_lt e))
  by Equal e = absurd (both_ways (bytes_eq x y) q ((bytes_eq-Decides x y).1 (exact_bytes x y e)))
  by Greater e = ap is_lt (nat_list_cmp_total.antisymm y x ∙ ap ordering_reverse e)

pub same_name : (x y : List ℕ) → bytes_eq x y ≡ true → x ≡ y
same_name x y = (bytes_eq-Decides x y).0

pub other_name : (x y : List ℕ) → bytes_eq x y ≡ false → bytes_eq y x ≡ false
other_name x y p = elim (cases_Bool (bytes_eq y x)) [
  | inl same ↦ absurd (both_ways (bytes_eq x y) p ((bytes_eq-Decides x y).1 (sym (same_name y x same))))
  | inr other ↦ other
]

pub below_differs : (x y : List ℕ) → is_below x y ≡ true → bytes_eq x y ≡ false
below_differs x y p = elim (cases_Bool (bytes_eq x y)) [
  | inl same ↦ absurd (below_self y (subst (λ (k : List ℕ). is_below k y ≡ true) (same_name x y same) p))
  | inr other ↦ other
]

pub above_differs : (x y : List ℕ) → is_below y x ≡ true → bytes_eq x y ≡ false
above_differs x y p = other_name y x (below_differs y x p)
