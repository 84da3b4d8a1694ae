-- Keys that were written, in another order; and lists of which nothing is left.
use Rattle.std.proofs.Common.{◌≡◌, ◌<◌, ◌≤◌, ℕ, zero, suc, refl, sym, List, [], ◌∷◌, length, inl, inr, arith}
use Rattle.std.specs.Prelude.{Some, slice_get, slice_index_or, IsPermutation}
use Rattle.std.specs.List.{Contains}
use Rattle.std.proofs.lemmas.List.Sorted.{Contains-permutation}
use Rattle.std.proofs.lemmas.Option.{slice_get_within}
use Rattle.kv_model.specs.Holds.{Member}

to-contains : {A : Type 0} (x : A) (l : List A) → Member x l → Contains l x
to-contains x [] has = absurd has
to-contains x (y ∷ ys) (inl is) = (0, omega arith, sym is)
to-contains x (y ∷ ys) (inr later) = let c = to-contains x ys later in (suc c.0, (let inside = c.1 in omega arith), c.2)

from-contains : {A : Type 0} (x : A) (l : List A) (k : ℕ) → k < length l → slice_index_or l k x ≡ x → Member x l
from-contains x [] k inside is = absurd (omega arith)
from-contains x (y ∷ ys) zero inside is = inl (sym is)
from-contains x (y ∷ ys) (suc k) inside is = inr (from-contains x ys k (omega arith) is)

pub members-kept : {A : Type 0} (x : A) (xs ys : List A) → IsPermutation xs ys → Member x xs → Member x ys
members-kept x xs ys same has = let c = Contains-permutation xs ys x same (to-contains x xs has) in from-contains x ys c.0 c.1 c.2

-- none is past all
pub past-all : {A : Type 0} (l : List A) (i : ℕ) (x : A) → length l ≤ i → slice_get l i ≡ Some x → ⊥
past-all l i x past there = let inside = slice_get_within l i x there in omega arith

pub member-none : {A : Type 0} (l : List A) (x : A) → length l ≤ 0 → Member x l → ⊥
member-none [] x none has = has
member-none (y ∷ ys) x none has = omega arith

pub none-in : {A : Type 0} (l : List A) → ((x : A) → Member x l → ⊥) → l ≡ []
none-in [] none = refl
none-in (x ∷ xs) none = absurd (none x (inl refl))
