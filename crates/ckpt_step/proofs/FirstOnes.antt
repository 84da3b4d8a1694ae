-- What is among the first of a list.
use Rattle.std.specs.Prelude.{◌≡◌, ℕ, zero, suc, ◌<◌, ◌≤◌, List, [], ◌∷◌, length, take, Some, slice_get, refl}
use Rattle.std.proofs.Common.{ap, arith}
use Rattle.ckpt_step.proofs.Members.{none_some}

pub take_get : {A : Type 0} (k : ℕ) (xs : List A) (i : ℕ) (x : A) → slice_get (take k xs) i ≡ Some x → (slice_get xs i ≡ Some x) × (i < k)
take_get zero xs i x is = absurd (none_some is)
take_get (suc k) [] i x is = absurd (none_some is)
take_get (suc k) (y ∷ xs) zero x is = (is, omega arith)
take_get (suc k) (y ∷ xs) (suc i) x is = let rest = take_get k xs i x is in (rest.0, omega (arith, rest.1))

pub take_length : {A : Type 0} (k : ℕ) (xs : List A) → k ≤ length xs → length (take k xs) ≡ k
take_length zero xs few = refl
take_length (suc k) [] few = absurd (omega (arith, few))
take_length (suc k) (x ∷ xs) few = ap suc (take_length k xs (omega (arith, few)))
