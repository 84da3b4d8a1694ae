-- What follows from what holds of the words.
use Rattle.std.specs.Prelude.{◌≡◌, ◌⊎◌, ℕ, ◌*◌, List, slice_index, slice_set}
use mathlib.Core.Option.{some}
use lib.ListN.{get_elem?}
use Rattle.pool_law.specs.Whole.{Noted, noted}
use Rattle.hazard_law.specs.declared.known.Hazards.{Hazards}
use Rattle.hazard_law.specs.declared.known.Mark.TheVariants.{Pins}
use Rattle.hazard_law.specs.declared.known.Lock.TheVariants.{Locks}
use Rattle.hazard_law.specs.Safety.{HasLock, Marks, Safe, Turns}
use Rattle.hazard_law.specs.Words.{filled, locked}

module _ {N : Type 0} where
  -- the frame of a pin is in or locked, at the generation of the pin
  abbrev pub PinnedStay : List ℕ → List (Noted (Hazards N)) → Type 0
  PinnedStay words seats = (j w f g : ℕ) (v : Noted (Hazards N)) → get_elem? seats j ≡ some v → Marks v.note w (Pins f g)
      → (slice_index words f ≡ filled g) ⊎ (slice_index words f ≡ locked g)

  -- where a seat has a frame locked and every hazard word scanned clear since, no hazard word pins the frame
  abbrev pub FreedHaveNoPin : List (Noted (Hazards N)) → Type 0
  FreedHaveNoPin seats = (id f g : ℕ) (v : Noted (Hazards N)) → get_elem? seats id ≡ some v → HasLock v.note f (Locks g (5 * v.note.shape.seats))
      → (j w h : ℕ) (u : Noted (Hazards N)) → get_elem? seats j ≡ some u → ¬ Marks u.note w (Pins f h)

  -- each step that there is keeps what holds, for a law beside that lets each step be
  abbrev pub StepsKeep : ℕ → List ℕ → List (Noted (Hazards N)) → Type 0
  StepsKeep frames words seats = (id : ℕ) (v : Noted (Hazards N)) (i n : ℕ) (after : Hazards N) (held : List ℕ) → get_elem? seats id ≡ some v
      → Turns (λ x a b c k. Unit {0}) v i (slice_index words i) n after → Safe frames (slice_set words i n) (slice_set seats id (noted after held))
