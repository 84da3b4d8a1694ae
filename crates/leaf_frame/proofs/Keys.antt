-- Keys on a way.
use Rattle.std.proofs.Common.{◌≡◌, ◌∙◌, ◌⊎◌, ℕ, ◌<◌, ◌≤◌, true, false, List, [], ◌∷◌, length, filter, Option, Some, None, refl, ap, subst, inl, inr, arith}
use Rattle.std.specs.declared.cmp.Ordering.{Ordering}
use Rattle.std.specs.declared.cmp.Ordering.TheVariants.{Less, Equal, Greater}
use Rattle.std.specs.Ordering.{nat_cmp, is_lt, ordering_reverse}
use Rattle.std.specs.Cmp.Lexicographic.{slice_cmp}
use Rattle.std.proofs.lemmas.Bool.{cases_Bool}
use Rattle.std.proofs.lemmas.Cmp.{nat_list_cmp_total}
use Rattle.std.proofs.lemmas.Map.Lookups.{exact_bytes}
use Rattle.kv_model.specs.Holds.{Member}
use Rattle.kv_model.specs.Rows.{Way, Up, Down, is_past, comes_after}
use Rattle.kv_model.proofs.KeyOrder.{after-trans, after-itself}
use Rattle.leaf_frame.specs.Near.{towards}

-- ---- how two keys compare on a way

turned_equal : (o : Ordering) → ordering_reverse o ≡ Equal → o ≡ Equal
turned_equal Less e = absurd cc
turned_equal Equal e = refl
turned_equal Greater e = absurd cc

turned_greater : (o : Ordering) → ordering_reverse o ≡ Greater → o ≡ Less
turned_greater Less e = refl
turned_greater Equal e = absurd cc
turned_greater Greater e = absurd cc

pub first_comes : (way : Way) (a b : List ℕ) → towards way (slice_cmp nat_cmp a b) ≡ Less → comes_after way a b ≡ true
first_comes Up a b e = ap is_lt e
first_comes Down a b e = ap is_lt (nat_list_cmp_total.antisymm b a ∙ e)

pub second_comes : (way : Way) (a b : List ℕ) → towards way (slice_cmp nat_cmp a b) ≡ Greater → comes_after way b a ≡ true
second_comes Up a b e = ap is_lt (nat_list_cmp_total.antisymm b a ∙ ap ordering_reverse e)
second_comes Down a b e = ap is_lt (turned_greater (slice_cmp nat_cmp a b) e)

pub same_keys : (way : Way) (a b : List ℕ) → towards way (slice_cmp nat_cmp a b) ≡ Equal → a ≡ b
same_keys Up a b e = exact_bytes a b e
same_keys Down a b e = exact_bytes a b (turned_equal (slice_cmp nat_cmp a b) e)

pub sides : (way : Way) (a b : List ℕ) → (comes_after way a b ≡ true) ⊎ ((a ≡ b) ⊎ (comes_after way b a ≡ true))
sides way a b = by (towards way (slice_cmp nat_cmp a b)) refl where
  by : (o : Ordering) → towards way (slice_cmp nat_cmp a b) ≡ o → (comes_after way a b ≡ true) ⊎ ((a ≡ b) ⊎ (comes_after way b a ≡ true))
  by Less e = inl (first_comes way a b e)
  by Equal e = inr (inl (same_keys way a b e))
  by Greater e = inr (inr (second_comes way a b e))

-- ---- past where a way starts

-- a key past another that is past is past
pub further : (way : Way) (from : Option (List ℕ)) (a b : List ℕ) → is_past way from a ≡ true → comes_after way a b ≡ true → is_past way from b ≡ true
further way None a b past after = refl
further way (Some f) a b past after = after-trans way f a b past after

-- ---- fewer keys lie behind

abbrev pub left_behind : Way → List (List ℕ) → Option (List ℕ) → ℕ
left_behind way keys from = length (filter (is_past way from) keys)

fewer : (way : Way) (from : Option (List ℕ)) (b : List ℕ) (keys : List (List ℕ)) → is_past way from b ≡ true → left_behind way keys (Some b) ≤ left_behind way keys from
fewer way from b [] past = omega arith
fewer way from b (k ∷ keys) past = elim (cases_Bool (comes_after way b k)) [
  | inl t ↦
      let u = further way from b k past t in
      rw (t, u) (let h = fewer way from b keys past in omega (arith, h))
  | inr f ↦ rw f (elim (cases_Bool (is_past way from k)) [
    | inl u ↦ rw u (let h = fewer way from b keys past in omega (arith, h))
    | inr v ↦ rw v (fewer way from b keys past)
  ])
]

pub strictly : (way : Way) (from : Option (List ℕ)) (b : List ℕ) (keys : List (List ℕ)) → is_past way from b ≡ true → Member b keys → left_behind way keys (Some b) < left_behind way keys from
strictly way from b [] past there = absurd there
strictly way from b (k ∷ keys) past (inl same) =
    let yes : is_past way from k ≡ true = subst (λ (x : List ℕ). is_past way from x ≡ true) same past in
    let no : comes_after way b k ≡ false = subst (λ (x : List ℕ). comes_after way b x ≡ false) same (after-itself way b) in
    rw (no, yes) (let h = fewer way from b keys past in omega (arith, h))
strictly way from b (k ∷ keys) past (inr later) = elim (cases_Bool (comes_after way b k)) [
  | inl t ↦
      let u = further way from b k past t in
      rw (t, u) (let h = strictly way from b keys past later in omega (arith, h))
  | inr f ↦ rw f (elim (cases_Bool (is_past way from k)) [
    | inl u ↦ rw u (let h = strictly way from b keys past later in omega (arith, h))
    | inr v ↦ rw v (strictly way from b keys past later)
  ])
]
