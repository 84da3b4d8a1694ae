-- The order of keys, rows in it, and where a key stands among them.
use Rattle.std.proofs.Common.{◌≡◌, ℕ, zero, suc, ◌+◌, ◌<◌, ◌≤◌, true, false, List, [], ◌∷◌, length, take, drop, get_or, Option, Some, None, refl, sym, ap, subst, ◌∙◌, inl, inr, arith, IsTrue}
use Rattle.std.specs.Prelude.{bytes_eq}
use Rattle.std.specs.List.{AllByRecursion}
use Rattle.std.specs.Ordering.{nat_cmp, is_lt, ordering_reverse}
use Rattle.std.specs.Cmp.Lexicographic.{slice_cmp}
use Rattle.std.specs.declared.cmp.Ordering.{Ordering}
use Rattle.std.specs.declared.cmp.Ordering.TheVariants.{Less, Equal, Greater}
use Rattle.std.proofs.lemmas.Cmp.{nat_list_cmp_total}
use Rattle.std.proofs.lemmas.Map.Lookups.{exact_bytes}
use Rattle.std.proofs.lemmas.Bool.{cases_Bool, both_ways}
use Rattle.std.proofs.lemmas.List.{drop_all, nil_from_length, length-drop}
use Rattle.std.proofs.lemmas.Option.{slice_get_within, get_or_from_slice_get}
use Rattle.std.proofs.lemmas.Slice.Eq.{bytes_eq-Decides}
use Rattle.row_page.specs.Rows.{Row, is_below, comes_after, Ascends}
use Rattle.row_page.specs.Views.{HasKeyAt, Splits}
use Rattle.row_page.specs.Places.{FirstNotBelow}

less_is : (o : Ordering) → is_lt o ≡ true → o ≡ Less
less_is Less e = refl
less_is Equal e = absurd cc
less_is Greater e = absurd cc

pub below_trans : (x y z : List ℕ) → is_below x y ≡ true → is_below y z ≡ true → is_below x z ≡ true
below_trans x y z p q = ap is_lt (nat_list_cmp_total.trans x y z (less_is (slice_cmp nat_cmp x y) p) (less_is (slice_cmp nat_cmp y z) q))

pub below_self : (x : List ℕ) → is_below x x ≡ true → ⊥
below_self x p = by (slice_cmp nat_cmp x x) (nat_list_cmp_total.antisymm x x) p where
  by : (r : Ordering) → r ≡ ordering_reverse r → is_lt r ≡ true → ⊥
  by Less e q = absurd cc
  by Equal e q = absurd cc
  by Greater e q = absurd cc

-- of two keys one is below, or they are the same
pub keys_part : (x y : List ℕ) → is_below x y ≡ false → bytes_eq x y ≡ false → is_below y x ≡ true
keys_part x y p q = by (slice_cmp nat_cmp x y) refl where
  by : (r : Ordering) → slice_cmp nat_cmp x y ≡ r → is_below y x ≡ true
  by Less e = absurd (both_ways (is_below x y) p (ap is_lt e))
  by Equal e = absurd (both_ways (bytes_eq x y) q ((bytes_eq-Decides x y).1 (exact_bytes x y e)))
  by Greater e = ap is_lt (nat_list_cmp_total.antisymm y x ∙ ap ordering_reverse e)

pub below_differs : (x y : List ℕ) → is_below x y ≡ true → bytes_eq x y ≡ false
below_differs x y p = elim (cases_Bool (bytes_eq x y)) [
  | inl same ↦ absurd (below_self y (subst (λ (k : List ℕ). is_below k y ≡ true) ((bytes_eq-Decides x y).0 same) p))
  | inr other ↦ other
]

pub above_differs : (x y : List ℕ) → is_below y x ≡ true → bytes_eq x y ≡ false
above_differs x y p = elim (cases_Bool (bytes_eq x y)) [
  | inl same ↦ absurd (below_self y (subst (λ (k : List ℕ). is_below y k ≡ true) ((bytes_eq-Decides x y).0 same) p))
  | inr other ↦ other
]

-- ---- rows that ascend

pub after_none : (rows : List Row) (before : Option (List ℕ)) → Ascends before rows → Ascends None rows
after_none [] before ascend = tt
after_none (r ∷ rows) before ascend = (refl, ascend.1)

-- what comes after a key that comes after another one comes after that
pub comes_later : (before : Option (List ℕ)) (x y : List ℕ) → comes_after before x ≡ true → is_below x y ≡ true → comes_after before y ≡ true
comes_later None x y p q = refl
comes_later (Some b) x y p q = below_trans b x y p q

pub ascends_later : (before : Option (List ℕ)) (k : List ℕ) (rows : List Row) → comes_after before k ≡ true → Ascends (Some k) rows → Ascends before rows
ascends_later before k [] after ascend = tt
ascends_later before k (r ∷ rows) after ascend = (comes_later before k r.0 after ascend.0, ascend.1)

-- each is above the key before them
pub all_above : (k : List ℕ) (rows : List Row) → Ascends (Some k) rows → AllByRecursion (λ (r : Row). is_below k r.0 ≡ true) rows
all_above k [] ascend = tt
all_above k (r ∷ rows) ascend = (ascend.0, all_above k rows (ascends_later (Some k) r.0 rows ascend.0 ascend.1))

pub above_at : (k : List ℕ) (rows : List Row) (i : ℕ) (r : Row) → Ascends (Some k) rows → i < length rows → r ≡ get_or rows i r → is_below k r.0 ≡ true
above_at k [] i r ascend lt is = absurd (omega (arith, lt))
above_at k (x ∷ rows) zero r ascend lt is = subst (λ (y : Row). is_below k y.0 ≡ true) (sym is) ascend.0
above_at k (x ∷ rows) (suc i) r ascend lt is = above_at k rows i r (ascends_later (Some k) x.0 rows ascend.0 ascend.1) (omega (arith, lt)) is

one_more : (i : ℕ) → suc i + 1 ≡ suc (i + 1)
one_more i = omega arith

-- ---- the search

pub below_upto : (before : Option (List ℕ)) (rows : List Row) (i : ℕ) (r : Row) (key : List ℕ) → Ascends before rows → i < length rows → r ≡ get_or rows i r → is_below r.0 key ≡ true → AllByRecursion (λ (x : Row). is_below x.0 key ≡ true) (take (i + 1) rows)
below_upto before [] i r key ascend lt is below = absurd (omega (arith, lt))
below_upto before (x ∷ rows) zero r key ascend lt is below = (subst (λ (y : Row). is_below y.0 key ≡ true) is below, tt)
below_upto before (x ∷ rows) (suc i) r key ascend lt is below =
    subst (λ (n : ℕ). AllByRecursion (λ (y : Row). is_below y.0 key ≡ true) (take n (x ∷ rows))) (sym (one_more i))
    (below_trans x.0 r.0 key (above_at x.0 rows i r ascend.1 (omega (arith, lt)) is) below, below_upto (Some x.0) rows i r key ascend.1 (omega (arith, lt)) is below)

not_below_later : (x y key : List ℕ) → is_below x key ≡ false → is_below x y ≡ true → is_below y key ≡ false
not_below_later x y key isnt lt = elim (cases_Bool (is_below y key)) [
  | inl is ↦ absurd (both_ways (is_below x key) isnt (below_trans x y key lt is))
  | inr other ↦ other
]

all_not_below : (x key : List ℕ) (rows : List Row) → is_below x key ≡ false → AllByRecursion (λ (r : Row). is_below x r.0 ≡ true) rows → AllByRecursion (λ (r : Row). is_below r.0 key ≡ false) rows
all_not_below x key [] isnt all = tt
all_not_below x key (r ∷ rows) isnt all = (not_below_later x r.0 key isnt all.0, all_not_below x key rows isnt all.1)

pub above_from : (before : Option (List ℕ)) (rows : List Row) (i : ℕ) (r : Row) (key : List ℕ) → Ascends before rows → i < length rows → r ≡ get_or rows i r → is_below r.0 key ≡ false → AllByRecursion (λ (x : Row). is_below x.0 key ≡ false) (drop i rows)
above_from before [] i r key ascend lt is above = absurd (omega (arith, lt))
above_from before (x ∷ rows) zero r key ascend lt is above =
    let here : is_below x.0 key ≡ false = subst (λ (y : Row). is_below y.0 key ≡ false) is above in
    (here, all_not_below x.0 key rows here (all_above x.0 rows ascend.1))
above_from before (x ∷ rows) (suc i) r key ascend lt is above = above_from (Some x.0) rows i r key ascend.1 (omega (arith, lt)) is above

-- the others are above a key that the row at hand is above
all_later : (before : Option (List ℕ)) (rows : List Row) (i : ℕ) (key : List ℕ) (d : Row) → Ascends before rows → i < length rows → is_below key (get_or rows i d).0 ≡ true → AllByRecursion (λ (r : Row). IsTrue (is_below key r.0)) (drop i rows)
all_later before [] i key d ascend lt above = absurd (omega (arith, lt))
all_later before (x ∷ rows) zero key d ascend lt above = (above, others rows (all_above x.0 rows ascend.1)) where
  others : (rest : List Row) → AllByRecursion (λ (r : Row). is_below x.0 r.0 ≡ true) rest → AllByRecursion (λ (r : Row). IsTrue (is_below key r.0)) rest
  others [] all = tt
  others (r ∷ rest) all = (below_trans key x.0 r.0 above all.0, others rest all.1)
all_later before (x ∷ rows) (suc i) key d ascend lt above = all_later (Some x.0) rows i key d ascend.1 (omega (arith, lt)) above

at_drop : (rows : List Row) (i : ℕ) (d : Row) (P : Row → Type 0) → AllByRecursion P (drop i rows) → i < length rows → P (get_or rows i d)
at_drop [] i d P all lt = absurd (omega (arith, lt))
at_drop (x ∷ rows) zero d P all lt = all.0
at_drop (x ∷ rows) (suc i) d P all lt = at_drop rows i d P all (omega (arith, lt))

-- the first row that is not below is the key's, or it is above
pub splits_end : (rows : List Row) (key : List ℕ) (i : ℕ) → FirstNotBelow rows key i → length rows ≤ i → Splits rows key i
splits_end rows key i first end = record {
  within = first.within;
  below = first.below;
  above = subst (λ (l : List Row). AllByRecursion (λ (r : Row). IsTrue (is_below key r.0)) l) (sym (nil_from_length (drop i rows) (omega (arith, length-drop i rows, end)))) tt;
}

pub splits_first : (rows : List Row) (key : List ℕ) (i : ℕ) (d : Row) → Ascends None rows → FirstNotBelow rows key i → i < length rows → (slice_cmp nat_cmp (get_or rows i d).0 key ≡ Equal → ⊥) → Splits rows key i
splits_first rows key i d ascend first lt other = record {
  within = first.within;
  below = first.below;
  above = all_later None rows i key d ascend lt (above (get_or rows i d) (at_drop rows i d (λ (r : Row). is_below r.0 key ≡ false) first.above lt) other);
}
  where
    above : (r : Row) → is_below r.0 key ≡ false → (slice_cmp nat_cmp r.0 key ≡ Equal → ⊥) → is_below key r.0 ≡ true
    above r isnt other = by (slice_cmp nat_cmp r.0 key) refl where
      by : (o : Ordering) → slice_cmp nat_cmp r.0 key ≡ o → is_below key r.0 ≡ true
      by Less e = absurd (both_ways (is_below r.0 key) isnt (ap is_lt e))
      by Equal e = absurd (other e)
      by Greater e = ap is_lt (nat_list_cmp_total.antisymm key r.0 ∙ ap ordering_reverse e)

-- ---- at a row whose key is read

row_at_place : (rows : List Row) (i : ℕ) (k : List ℕ) (h : HasKeyAt rows k i) → (i < length rows) × (h.0 ≡ get_or rows i h.0)
row_at_place rows i k h = (slice_get_within rows i h.0 h.1, sym (get_or_from_slice_get rows i h.0 h.0 h.1))

pub below_at : (rows : List Row) (key k : List ℕ) (i : ℕ) → Ascends None rows → HasKeyAt rows k i → is_below k key ≡ true → AllByRecursion (λ (x : Row). is_below x.0 key ≡ true) (take (i + 1) rows)
below_at rows key k i ascend h below = let p = row_at_place rows i k h in below_upto None rows i h.0 key ascend p.0 p.1 (ap (λ (x : List ℕ). is_below x key) h.2 ∙ below)

pub not_below_at : (rows : List Row) (key k : List ℕ) (i : ℕ) → Ascends None rows → HasKeyAt rows k i → is_below k key ≡ false → AllByRecursion (λ (x : Row). is_below x.0 key ≡ false) (drop i rows)
not_below_at rows key k i ascend h above = let p = row_at_place rows i k h in above_from None rows i h.0 key ascend p.0 p.1 (ap (λ (x : List ℕ). is_below x key) h.2 ∙ above)

pub all_below : (rows : List Row) (key k : List ℕ) (i : ℕ) → Ascends None rows → HasKeyAt rows k i → i + 1 ≡ length rows → is_below k key ≡ true → FirstNotBelow rows key (length rows)
all_below rows key k i ascend h last below = record {
  within = omega arith;
  below = subst (λ (n : ℕ). AllByRecursion (λ (x : Row). is_below x.0 key ≡ true) (take n rows)) last (below_at rows key k i ascend h below);
  above = subst (λ (l : List Row). AllByRecursion (λ (x : Row). is_below x.0 key ≡ false) l) (sym (drop_all (length rows) rows (omega arith))) tt;
}

pub splits_at : (rows : List Row) (key k : List ℕ) (i : ℕ) → Ascends None rows → FirstNotBelow rows key i → HasKeyAt rows k i → (slice_cmp nat_cmp k key ≡ Equal → ⊥) → Splits rows key i
splits_at rows key k i ascend first h other =
    let p = row_at_place rows i k h in
    let same : (get_or rows i h.0).0 ≡ k = ap (λ (r : Row). r.0) (sym p.1) ∙ h.2 in
    splits_first rows key i h.0 ascend first p.0 (λ e. other (ap (λ (x : List ℕ). slice_cmp nat_cmp x key) (sym same) ∙ e))
