-- Lists whose elements give lists, one element after the other: the rows of pages, and those of a page's rows.
use Rattle.std.proofs.Common.{◌≡◌, ◌≤◌, ℕ, zero, suc, ◌+◌, List, [], ◌∷◌, ◌++◌, length, take, drop, reverse, Some, sym, ap, ◌∙◌, arith}
use Rattle.std.specs.Prelude.{slice_get}
use Rattle.std.specs.List.{flat_map}
use Rattle.std.proofs.lemmas.List.{append-nil, append_assoc, drop_all, reverse-append, take_all}

step_up : {A B : Type 0} (f : A → List B) (xs : List A) (i : ℕ) (x : A) → slice_get xs i ≡ Some x → flat_map f (take (suc i) xs) ≡ flat_map f (take i xs) ++ f x
step_up f [] i x is = absurd cc
step_up f (y ∷ xs) zero x is = let same : y ≡ x = cc in append-nil (f y) ∙ ap f same
step_up f (y ∷ xs) (suc i) x is = ap (λ l. f y ++ l) (step_up f xs i x is) ∙ sym (append_assoc (f y) (flat_map f (take i xs)) (f x))

step_down : {A B : Type 0} (f : A → List B) (xs : List A) (i : ℕ) (x : A) → slice_get xs i ≡ Some x → flat_map f (drop i xs) ≡ f x ++ flat_map f (drop (suc i) xs)
step_down f [] i x is = absurd cc
step_down f (y ∷ xs) zero x is = let same : y ≡ x = cc in ap (λ z. f z ++ flat_map f xs) same
step_down f (y ∷ xs) (suc i) x is = step_down f xs i x is

plus_one : (i : ℕ) → i + 1 ≡ suc i
plus_one i = omega arith

-- upwards
pub next_up : {A B : Type 0} (f : A → List B) (xs : List A) (i : ℕ) (x : A) → slice_get xs i ≡ Some x → flat_map f (take (i + 1) xs) ≡ flat_map f (take i xs) ++ f x
next_up f xs i x is = ap (λ (n : ℕ). flat_map f (take n xs)) (plus_one i) ∙ step_up f xs i x is

pub all_up : {A B : Type 0} (f : A → List B) (xs : List A) (i : ℕ) → length xs ≤ i → flat_map f (take i xs) ≡ flat_map f xs
all_up f xs i le = ap (flat_map f) (take_all i xs le)

-- downwards
pub none_down : {A B : Type 0} (f : A → List B) (xs : List A) (i : ℕ) → length xs ≤ i → reverse (flat_map f (drop i xs)) ≡ []
none_down f xs i le = ap (λ l. reverse (flat_map f l)) (drop_all i xs le)

pub next_down : {A B : Type 0} (f : A → List B) (xs : List A) (i : ℕ) (x : A) → slice_get xs i ≡ Some x → reverse (flat_map f (drop i xs)) ≡ reverse (flat_map f (drop (i + 1) xs)) ++ reverse (f x)
next_down f xs i x is =
    ap reverse (step_down f xs i x is)
    ∙ reverse-append (f x) (flat_map f (drop (suc i) xs))
    ∙ ap (λ (n : ℕ). reverse (flat_map f (drop n xs)) ++ reverse (f x)) (sym (plus_one i))
