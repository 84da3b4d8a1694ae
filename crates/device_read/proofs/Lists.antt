-- Places in lists, and members.
use Rattle.std.proofs.Common.{◌≡◌, ◌⊎◌, ℕ, zero, suc, List, [], ◌∷◌, ◌++◌, take, drop, map, Some, refl, sym, ap, subst, ◌∙◌, inl, inr}
use Rattle.std.specs.Prelude.{slice_get, option_map}
use Rattle.std.specs.List.{AllByRecursion}
use Rattle.std.proofs.lemmas.Option.{slice_get-map}
use Rattle.kv_model.specs.Holds.{Member}

pub split_at : {A : Type 0} (xs : List A) (i : ℕ) (x : A) → slice_get xs i ≡ Some x → xs ≡ take i xs ++ x ∷ drop (suc i) xs
split_at [] i x is = absurd cc
split_at (y ∷ xs) zero x is = let same : y ≡ x = cc in ap (λ z. z ∷ xs) same
split_at (y ∷ xs) (suc i) x is = ap (λ l. y ∷ l) (split_at xs i x is)

pub mapped_at : {A B : Type 0} (f : A → B) (xs : List A) (i : ℕ) (x : A) → slice_get xs i ≡ Some x → slice_get (map f xs) i ≡ Some (f x)
mapped_at f xs i x is = slice_get-map f xs i ∙ ap (option_map f) is

-- what a mapped list has at a place
pub unmapped_at : {A B : Type 0} (f : A → B) (xs : List A) (i : ℕ) (y : B) → slice_get (map {A = A} f xs) i ≡ Some y → (x : A) × (slice_get xs i ≡ Some x) × (f x ≡ y)
unmapped_at f [] i y is = absurd cc
unmapped_at f (x ∷ xs) zero y is = (x, refl, cc)
unmapped_at f (x ∷ xs) (suc i) y is = unmapped_at f xs i y is

pub all_member : {A : Type 0} (P : A → Type 0) (xs : List A) (x : A) → AllByRecursion P xs → Member x xs → P x
all_member P [] x all there = absurd there
all_member P (y ∷ xs) x all (inl is) = subst P (sym is) all.0
all_member P (y ∷ xs) x all (inr there) = all_member P xs x all.1 there

pub member_at : {A : Type 0} (xs : List A) (i : ℕ) (x : A) → slice_get xs i ≡ Some x → Member x xs
member_at [] i x is = absurd cc
member_at (y ∷ xs) zero x is = let same : y ≡ x = cc in inl (sym same)
member_at (y ∷ xs) (suc i) x is = inr (member_at xs i x is)

pub all_both : {A : Type 0} (P : A → Type 0) (xs ys : List A) → AllByRecursion P xs → AllByRecursion P ys → AllByRecursion P (xs ++ ys)
all_both P [] ys front back = back
all_both P (x ∷ xs) ys front back = (front.0, all_both P xs ys front.1 back)

pub member_parts : {A : Type 0} (xs ys : List A) (x : A) → Member x (xs ++ ys) → Member x xs ⊎ Member x ys
member_parts [] ys x there = inr there
member_parts (y ∷ xs) ys x (inl is) = inl (inl is)
member_parts {A} (y ∷ xs) ys x (inr there) = elim (member_parts xs ys x there) [ inl front ↦ inl (inr front) | inr back ↦ inr back ]

pub member_front : {A : Type 0} (xs ys : List A) (x : A) → Member x xs → Member x (xs ++ ys)
member_front [] ys x there = absurd there
member_front (y ∷ xs) ys x (inl is) = inl is
member_front (y ∷ xs) ys x (inr there) = inr (member_front xs ys x there)

pub member_back : {A : Type 0} (xs ys : List A) (x : A) → Member x ys → Member x (xs ++ ys)
member_back [] ys x there = there
member_back (y ∷ xs) ys x there = inr (member_back xs ys x there)
