-- Lists with one more behind the others.
use Rattle.std.proofs.Common.{◌≡◌, ◌≢◌, ◌⊎◌, ℕ, zero, suc, refl, List, [], ◌∷◌, ◌++◌, length, inl, inr, arith}
use Rattle.std.specs.Prelude.{Some, None, slice_get, slice_index_or}

pub append-other : {A : Type 0} (xs : List A) (x d : A) (i : ℕ) → i ≢ length xs → slice_index_or (xs ++ x ∷ []) i d ≡ slice_index_or xs i d
append-other [] x d zero other = absurd (other refl)
append-other [] x d (suc i) other = refl
append-other (y ∷ ys) x d zero other = refl
append-other (y ∷ ys) x d (suc i) other = append-other ys x d i (let less : i ≢ length ys = omega (arith, other) in less)

-- one more that is what is found past the end
pub append-default : {A : Type 0} (xs : List A) (d : A) (i : ℕ) → slice_index_or (xs ++ d ∷ []) i d ≡ slice_index_or xs i d
append-default [] d zero = refl
append-default [] d (suc i) = refl
append-default (y ∷ ys) d zero = refl
append-default (y ∷ ys) d (suc i) = append-default ys d i

pub append-keeps : {A : Type 0} (xs : List A) (x y : A) (i : ℕ) → slice_get xs i ≡ Some y → slice_get (xs ++ x ∷ []) i ≡ Some y
append-keeps [] x y i at = let none : None ≡ Some y = at in absurd (cc)
append-keeps (z ∷ zs) x y zero at = at
append-keeps (z ∷ zs) x y (suc i) at = append-keeps zs x y i at

-- what is found was there, or is the last one
pub append-finds : {A : Type 0} (xs : List A) (x y : A) (i : ℕ) → slice_get (xs ++ x ∷ []) i ≡ Some y → (slice_get xs i ≡ Some y) ⊎ ((i ≡ length xs) × (x ≡ y))
append-finds [] x y zero at = inr (refl, (let same : Some x ≡ Some y = at in cc))
append-finds [] x y (suc i) at = let none : None ≡ Some y = at in absurd (cc)
append-finds (z ∷ zs) x y zero at = inl at
append-finds (z ∷ zs) x y (suc i) at = elim (append-finds zs x y i at) [ inl old ↦ inl old | inr last ↦ inr ((let here = last.0 in omega arith), last.1) ]

pub append-last : {A : Type 0} (xs : List A) (x : A) → slice_get (xs ++ x ∷ []) (length xs) ≡ Some x
append-last [] x = refl
append-last (y ∷ ys) x = append-last ys x
