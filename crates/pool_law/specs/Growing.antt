-- A law for tests: frames never fall, and the hub is at most their sum.
use Rattle.std.specs.Prelude.{◌≡◌, ℕ, suc, zero, ◌≤◌, List, [], ◌∷◌, length, ◌+◌, slice_set}
use mathlib.Core.Option.{some}
use lib.ListN.{get_elem?}
use Rattle.pool_law.specs.declared.part.Part.{Part}
use Rattle.pool_law.specs.declared.part.Part.TheVariants.{Hub, Frame, Gone}
use Rattle.pool_law.specs.Whole.{Noted, Whole}

abbrev pub value_of : Part ℕ ℕ → ℕ
value_of (Hub h) = h
value_of (Frame f) = f
value_of Gone = 0

abbrev pub total : List ℕ → ℕ
total [] = 0
total (x ∷ xs) = x + total xs

-- what was seen is no more than what is there
pub data Under : List ℕ → List ℕ → Type 0 where
  none_left : Under [] []
  both_left : (x y : ℕ) (xs ys : List ℕ) → x ≤ y → Under xs ys → Under (x ∷ xs) (y ∷ ys)

pub record Grown (n : ℕ) (x : Whole ℕ ℕ (List ℕ)) : Type 0 where
  pub wide : length x.frames ≡ n
  pub most : x.hub ≤ total x.frames
  pub seen : (j : ℕ) (v : Noted (List ℕ)) → get_elem? x.seats j ≡ some v → Under v.note x.frames

abbrev pub looks : Noted (List ℕ) → ℕ → Part ℕ ℕ → List ℕ → Type 0
looks v zero p n = n ≡ v.note
looks v (suc f) p n = n ≡ slice_set v.note f (value_of p)

abbrev pub raises : Noted (List ℕ) → ℕ → Part ℕ ℕ → Part ℕ ℕ → List ℕ → Type 0
raises v zero p y n = (value_of y ≤ total v.note) × (n ≡ v.note)
raises v (suc f) p y n = (value_of p ≤ value_of y) × (n ≡ slice_set v.note f (value_of y))
