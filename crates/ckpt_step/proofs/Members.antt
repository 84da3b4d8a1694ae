-- Members of lists.
use Rattle.std.specs.Prelude.{◌≡◌, ◌⊎◌, ℕ, zero, suc, ◌+◌, ◌<◌, ◌≤◌, List, [], ◌∷◌, ◌++◌, length, map, Some, None, slice_get, refl}
use Rattle.std.specs.List.{AllByRecursion, flat_map}
use Rattle.std.proofs.Common.{inl, inr, sym, ◌∙◌, ap, subst, arith}
use Rattle.kv_model.specs.Holds.{Member}

-- ---- a fact of each

pub all_of : {A : Type 0} (P : A → Type 0) (l : List A) (x : A) → AllByRecursion P l → Member x l → P x
all_of P [] x all there = absurd there
all_of P (y ∷ l) x all (inl same) = subst P (sym same) all.0
all_of P (y ∷ l) x all (inr there) = all_of P l x all.1 there

pub all_made : {A : Type 0} (P : A → Type 0) (l : List A) → ((x : A) → Member x l → P x) → AllByRecursion P l
all_made P [] each = tt
all_made P (x ∷ l) each = (each x (inl refl), all_made P l (λ y there. each y (inr there)))

-- ---- two lists

pub in_front : {A : Type 0} (xs ys : List A) (x : A) → Member x xs → Member x (xs ++ ys)
in_front [] ys x there = absurd there
in_front (y ∷ xs) ys x (inl same) = inl same
in_front (y ∷ xs) ys x (inr later) = inr (in_front xs ys x later)

pub in_back : {A : Type 0} (xs ys : List A) (x : A) → Member x ys → Member x (xs ++ ys)
in_back [] ys x there = there
in_back (y ∷ xs) ys x there = inr (in_back xs ys x there)

pub in_either : {A : Type 0} (xs ys : List A) (x : A) → Member x (xs ++ ys) → Member x xs ⊎ Member x ys
in_either [] ys x there = inr there
in_either (y ∷ xs) ys x (inl same) = inl (inl same)
in_either (y ∷ xs) ys x (inr there) = elim (in_either xs ys x there) [ inl left ↦ inl (inr left) | inr right ↦ inr right ]

-- ---- mapped

pub map_member : {A B : Type 0} (f : A → B) (x : A) (xs : List A) → Member x xs → Member (f x) (map f xs)
map_member f x [] there = there
map_member f x (y ∷ xs) (inl same) = inl (ap f same)
map_member f x (y ∷ xs) (inr later) = inr (map_member f x xs later)

pub member_map : {A B : Type 0} (f : A → B) (y : B) (xs : List A) → Member y (map f xs) → (x : A) × Member x xs × (y ≡ f x)
member_map f y [] there = absurd there
member_map f y (x ∷ xs) (inl same) = (x, inl refl, same)
member_map f y (x ∷ xs) (inr later) = let one = member_map f y xs later in (one.0, inr one.1, one.2)

pub flat_member : {A B : Type 0} (f : A → List B) (x : A) (xs : List A) (y : B) → Member x xs → Member y (f x) → Member y (flat_map f xs)
flat_member f x [] y there own = absurd there
flat_member {A} {B} f x (z ∷ xs) y (inl same) own = in_front (f z) (flat_map f xs) y (subst (λ (w : A). Member y (f w)) same own)
flat_member f x (z ∷ xs) y (inr there) own = in_back (f z) (flat_map f xs) y (flat_member f x xs y there own)

pub member_flat : {A B : Type 0} (f : A → List B) (xs : List A) (y : B) → Member y (flat_map f xs) → (x : A) × Member x xs × Member y (f x)
member_flat f [] y there = absurd there
member_flat f (x ∷ xs) y there = elim (in_either (f x) (flat_map f xs) y there) [
  | inl own ↦ (x, inl refl, own)
  | inr later ↦ let one = member_flat f xs y later in (one.0, inr one.1, one.2)
]

-- ---- by place

pub some_same : {A : Type 0} {x y : A} → Some x ≡ Some y → x ≡ y
some_same same = cc

pub none_some : {A : Type 0} {x : A} → None ≡ Some x → ⊥
none_some same = cc

pub get_member : {A : Type 0} (xs : List A) (i : ℕ) (x : A) → slice_get xs i ≡ Some x → Member x xs
get_member [] i x is = absurd (none_some is)
get_member (y ∷ xs) zero x is = inl (sym (some_same is))
get_member (y ∷ xs) (suc i) x is = inr (get_member xs i x is)

pub member_at : {A : Type 0} (x : A) (xs : List A) → Member x xs → (i : ℕ) × (slice_get xs i ≡ Some x)
member_at x [] there = absurd there
member_at x (y ∷ xs) (inl same) = (zero, ap Some (sym same))
member_at x (y ∷ xs) (inr there) = let later = member_at x xs there in (suc later.0, later.1)

pub get_within : {A : Type 0} (xs : List A) (i : ℕ) → i < length xs → (x : A) × (slice_get xs i ≡ Some x)
get_within [] i lt = absurd (omega (arith, lt))
get_within (x ∷ xs) zero lt = (x, refl)
get_within (x ∷ xs) (suc i) lt = get_within xs i (omega (arith, lt))

-- ---- as many as there are

none_within : {A : Type 0} (l : List A) (x : A) → length l ≤ 0 → Member x l → ⊥
none_within [] x few there = there
none_within (y ∷ l) x few there = omega (arith, few)

-- a list less one of its members
record Without {A : Type 0} (x : A) (ys : List A) : Type 0 where
  rest : List A
  count : length ys ≡ length rest + 1
  others : (y : A) → Member y ys → (y ≡ x) ⊎ Member y rest

behind : {A : Type 0} (x y : A) (ys : List A) → Without x ys → Without x (y ∷ ys)
behind x y ys less = record { rest = y ∷ less.rest; count = omega (arith, less.count); others = others }
  where
    others : (z : _) → Member z (y ∷ ys) → (z ≡ x) ⊎ Member z (y ∷ less.rest)
    others z (inl is) = inr (inl is)
    others z (inr later) = elim (less.others z later) [ inl is ↦ inl is | inr more ↦ inr (inr more) ]

without : {A : Type 0} (x : A) (ys : List A) → Member x ys → Without x ys
without x [] there = absurd there
without x (y ∷ ys) (inl same) = record { rest = ys; count = omega arith; others = others }
  where
    others : (z : _) → Member z (y ∷ ys) → (z ≡ x) ⊎ Member z ys
    others z (inl is) = inl (is ∙ sym same)
    others z (inr later) = inr later
without x (y ∷ ys) (inr there) = behind x y ys (without x ys there)

-- as many that differ as a list has, and all of them its members, are all its members
pub all_met : {A : Type 0} (xs ys : List A) → length ys ≤ length xs → ((p : ℕ) (x : A) → slice_get xs p ≡ Some x → Member x ys) → ((p q : ℕ) (x : A) → slice_get xs p ≡ Some x → slice_get xs q ≡ Some x → p ≡ q) → (y : A) → Member y ys → (p : ℕ) × (slice_get xs p ≡ Some y)
all_met [] ys few each one y there = absurd (none_within ys y (omega (arith, few)) there)
all_met {A} (x ∷ xs) ys few each one y there = elim (less.others y there) [
  | inl is ↦ (zero, ap Some (sym is))
  | inr more ↦ let later = all_met xs less.rest (omega (arith, few, less.count)) within (λ p q z at also. omega (arith, one (suc p) (suc q) z at also)) y more in (suc later.0, later.1)
]
  where
    less : Without x ys
    less = without x ys (each zero x refl)

    within : (p : ℕ) (z : A) → slice_get xs p ≡ Some z → Member z less.rest
    within p z at = elim (less.others z (each (suc p) z at)) [
      | inl is ↦ absurd (omega (arith, one zero (suc p) z (ap Some (sym is)) at))
      | inr more ↦ more
    ]
