-- What lies in the slots and the words at the end.
use Rattle.std.specs.Prelude.{◌≡◌, ℕ, ◌≤◌, List, ◌∷◌, map, length, drop}
use Rattle.pool_law.specs.declared.part.Part.{Part}
use Rattle.pool_law.specs.declared.part.Part.TheVariants.{Hub, Frame}
use Rattle.pool_law.specs.Whole.{Whole}
use Rattle.latch_table.specs.declared.seat.Seat.{Seat}
use Rattle.latch_table.specs.Closing.{HasNotes}

module _ {L H F N : Type 0} where
  abbrev pub LeavesAll : (Whole H F N → Type 0) → List (Seat L H F N) → List ℕ → List (Part H F) → Type 0
  LeavesAll joint seats words parts = (x : Whole H F N) × joint x × (parts ≡ Hub x.hub ∷ map Frame x.frames)
      × (drop (length parts) words ≡ x.words) × (length parts ≤ length words) × HasNotes x seats
