-- What is in lists, and lists that descend.
use Rattle.std.proofs.Common.{◌≡◌, ◌⊎◌, ◌<◌, ◌++◌, ℕ, zero, suc, List, [], ◌∷◌, length, get_or, map, refl, sym, ap, subst, inl, inr, arith}
use Rattle.std.specs.List.{All, AllByRecursion, Contains}
use Rattle.std.specs.Prelude.{IsPermutation, slice_index_or}
use Rattle.std.proofs.lemmas.List.Sorted.{Contains-permutation}
use Rattle.kv_model.specs.Holds.{Descends, Member}

pub member_left : {A : Type 0} (x : A) (xs ys : List A) → Member x xs → Member x (xs ++ ys)
member_left x [] ys there = absurd there
member_left x (y ∷ xs) ys (inl is) = inl is
member_left x (y ∷ xs) ys (inr there) = inr (member_left x xs ys there)

pub member_right : {A : Type 0} (x : A) (xs ys : List A) → Member x ys → Member x (xs ++ ys)
member_right x [] ys there = there
member_right x (y ∷ xs) ys there = inr (member_right x xs ys there)

pub member_either : {A : Type 0} (x : A) (xs ys : List A) → Member x (xs ++ ys) → Member x xs ⊎ Member x ys
member_either x [] ys there = inr there
member_either x (y ∷ xs) ys (inl is) = inl (inl is)
member_either x (y ∷ xs) ys (inr there) = elim (member_either x xs ys there) [ inl front ↦ inl (inr front) | inr back ↦ inr back ]

pub member_mapped : {A B : Type 0} (f : A → B) (x : A) (xs : List A) → Member x xs → Member (f x) (map f xs)
member_mapped f x [] there = absurd there
member_mapped f x (y ∷ xs) (inl is) = inl (ap f is)
member_mapped f x (y ∷ xs) (inr there) = inr (member_mapped f x xs there)

pub mapped_member : {A B : Type 0} (f : A → B) (y : B) (xs : List A) → Member y (map f xs) → (x : A) × Member x xs × (y ≡ f x)
mapped_member f y [] there = absurd there
mapped_member f y (x ∷ xs) (inl is) = (x, inl refl, is)
mapped_member f y (x ∷ xs) (inr there) = let m = mapped_member f y xs there in (m.0, inr m.1, m.2)

pub member_at : {A : Type 0} (xs : List A) (i : ℕ) (x : A) → i < length xs → x ≡ get_or xs i x → Member x xs
member_at [] i x lt is = absurd (omega (arith, lt))
member_at (y ∷ xs) zero x lt is = inl is
member_at (y ∷ xs) (suc i) x lt is = inr (member_at xs i x (omega (arith, lt)) is)

pub place_of : {A : Type 0} (x : A) (xs : List A) → Member x xs → (i : ℕ) × (i < length xs) × ((d : A) → get_or xs i d ≡ x)
place_of x [] there = absurd there
place_of x (y ∷ xs) (inl is) = (0, omega arith, λ d. sym is)
place_of x (y ∷ xs) (inr there) = let p = place_of x xs there in (suc p.0, (let lt = p.1 in omega (arith, lt)), p.2)

to_contains : {A : Type 0} (x : A) (l : List A) → Member x l → Contains l x
to_contains x [] has = absurd has
to_contains x (y ∷ ys) (inl is) = (0, omega arith, sym is)
to_contains x (y ∷ ys) (inr later) = let c = to_contains x ys later in (suc c.0, (let inside = c.1 in omega arith), c.2)

from_contains : {A : Type 0} (x : A) (l : List A) (k : ℕ) → k < length l → slice_index_or l k x ≡ x → Member x l
from_contains x [] k inside is = absurd (omega arith)
from_contains x (y ∷ ys) zero inside is = inl (sym is)
from_contains x (y ∷ ys) (suc k) inside is = inr (from_contains x ys k (omega arith) is)

pub members_kept : {A : Type 0} (x : A) (xs ys : List A) → IsPermutation xs ys → Member x xs → Member x ys
members_kept x xs ys same has = let c = Contains-permutation xs ys x same (to_contains x xs has) in from_contains x ys c.0 c.1 c.2

-- ---- what holds of each

pub all_of : {A : Type 0} (P : A → Type 0) (xs : List A) → ((x : A) → Member x xs → P x) → AllByRecursion P xs
all_of P [] each = tt
all_of P (x ∷ xs) each = (each x (inl refl), all_of P xs (λ y there. each y (inr there)))

pub of_all : {A : Type 0} (P : A → Type 0) (xs : List A) (x : A) → AllByRecursion P xs → Member x xs → P x
of_all P [] x all there = absurd there
of_all P (y ∷ xs) x all (inl is) = subst P (sym is) all.0
of_all P (y ∷ xs) x all (inr there) = of_all P xs x all.1 there

pub all_both : {A : Type 0} (P : A → Type 0) (xs ys : List A) → AllByRecursion P xs → AllByRecursion P ys → AllByRecursion P (xs ++ ys)
all_both P [] ys front back = back
all_both P (x ∷ xs) ys front back = (front.0, all_both P xs ys front.1 back)

pub all_front : {A : Type 0} (P : A → Type 0) (xs ys : List A) → AllByRecursion P (xs ++ ys) → AllByRecursion P xs
all_front P [] ys all = tt
all_front P (x ∷ xs) ys all = (all.0, all_front P xs ys all.1)

pub all_back : {A : Type 0} (P : A → Type 0) (xs ys : List A) → AllByRecursion P (xs ++ ys) → AllByRecursion P ys
all_back P [] ys all = all
all_back P (x ∷ xs) ys all = all_back P xs ys all.1

pub all_at : (P : ℕ → Type 0) (front : List ℕ) (i : ℕ) (back : List ℕ) → All P (front ++ i ∷ back) → P i
all_at P [] i back all = all 0 0 (omega arith)
all_at P (x ∷ front) i back all = all_at P front i back (λ k d lt. all (suc k) d (omega (arith, lt)))

pub descends_both : {A : Type 0} (B : A → A → Type 0) (xs ys : List A) → Descends B xs → Descends B ys → ((x y : A) → Member x xs → Member y ys → B y x) → Descends B (xs ++ ys)
descends_both B [] ys front back cross = back
descends_both B (x ∷ xs) ys front back cross = (
  (λ y there. elim (member_either y xs ys there) [ inl near ↦ front.0 y near | inr far ↦ cross x y (inl refl) far ]),
  descends_both B xs ys front.1 back (λ a b here there. cross a b (inr here) there),
)
