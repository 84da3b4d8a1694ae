-- How a table ends.
use Rattle.std.specs.Prelude.{◌≡◌, ℕ, ◌<◌, List, []}
use mathlib.Core.Option.{some}
use lib.ListN.{get_elem?}
use Rattle.pool_law.specs.Whole.{Whole, noted}
use Rattle.latch_table.specs.declared.latched.Latched.{Latched}
use Rattle.latch_table.specs.declared.seat.Seat.{Seat}
use Rattle.latch_table.specs.Tables.{IsSeatOf, note_of, number_of_seat, shape_of, taken}

module _ {L H F N : Type 0} where
  -- a seat of this table, which holds no piece
  abbrev pub IsIdle : Latched L H F N → Seat L H F N → Type 0
  IsIdle t s = IsSeatOf t s × (taken s ≡ [])

  -- all seats of the table are given, and none holds a piece
  pub record AreAll (t : Latched L H F N) (seats : List (Seat L H F N)) : Type 0 where
    pub idle : (a : ℕ) (s : Seat L H F N) → get_elem? seats a ≡ some s → IsIdle t s
    pub each : (j : ℕ) → j < (shape_of t).seats → (a : ℕ) × (s : Seat L H F N) × (get_elem? seats a ≡ some s) × (number_of_seat s ≡ j)

  -- the seats' notes are those with which the law holds
  abbrev pub HasNotes : Whole H F N → List (Seat L H F N) → Type 0
  HasNotes x seats = (a : ℕ) (s : Seat L H F N) → get_elem? seats a ≡ some s → get_elem? x.seats (number_of_seat s) ≡ some (noted (note_of s) [])

  -- these are the pieces and further words with which, and with the seats' notes, the law holds
  abbrev pub EndsAs : (Whole H F N → Type 0) → List (Seat L H F N) → H → List F → List ℕ → Type 0
  EndsAs joint seats hub frames words = (x : Whole H F N) × joint x × (hub ≡ x.hub) × (frames ≡ x.frames) × (words ≡ x.words) × HasNotes x seats

  -- the same of the hub alone
  abbrev pub EndsWith : (Whole H F N → Type 0) → List (Seat L H F N) → H → Type 0
  EndsWith joint seats hub = (x : Whole H F N) × joint x × (hub ≡ x.hub) × HasNotes x seats
