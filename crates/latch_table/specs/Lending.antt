-- A seat with another piece in one place.
use Rattle.std.specs.Prelude.{◌≡◌, ℕ, ◌+◌}
use Rattle.std.specs.Vec.{with_item}
use mathlib.Core.Option.{some}
use lib.ListN.{get_elem?}
use Rattle.pool_law.specs.declared.part.Part.{Part}
use Rattle.pool_law.specs.declared.part.Part.TheVariants.{Hub, Frame}
use Rattle.latch_table.specs.declared.seat.Seat.{Seat}

module _ {L H F N : Type 0} where
  abbrev pub with_part : Seat L H F N → ℕ → Part H F → Seat L H F N
  with_part s i w = record s { parts = with_item s.parts i w }

  -- the seat has the hub with it, and this is the hub as it is now
  abbrev pub IsHubWith : Seat L H F N → H → Type 0
  IsHubWith s h = get_elem? s.parts.items 0 ≡ some (Hub h)

  abbrev pub HasHub : Seat L H F N → Type 0
  HasHub s = (h : H) × IsHubWith s h

  -- the seat has the frame f with it, and this is the frame as it is now
  abbrev pub IsFrameWith : Seat L H F N → ℕ → F → Type 0
  IsFrameWith s f x = get_elem? s.parts.items (f + 1) ≡ some (Frame x)

  abbrev pub HasFrame : Seat L H F N → ℕ → Type 0
  HasFrame s f = (x : F) × IsFrameWith s f x
