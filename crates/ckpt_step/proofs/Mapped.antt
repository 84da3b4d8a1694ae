-- What stands at a place of a list that is mapped.
use Rattle.std.specs.Prelude.{◌≡◌, ℕ, zero, suc, List, [], ◌∷◌, map, Some, slice_get, refl}
use Rattle.ckpt_step.proofs.Members.{none_some, some_same}

pub map_at : {A B : Type 0} (f : A → B) (xs : List A) (i : ℕ) (y : B) → slice_get (map f xs) i ≡ Some y → (x : A) × (slice_get xs i ≡ Some x) × (f x ≡ y)
map_at f [] i y at = absurd (none_some at)
map_at f (x ∷ xs) zero y at = (x, refl, some_same at)
map_at f (x ∷ xs) (suc i) y at = map_at f xs i y at
