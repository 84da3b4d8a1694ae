use Rattle.std.proofs.Common.{◌≡◌, ◌+◌, ◌≤◌, ◌<◌, All, length}
use Rattle.std.specs.Prelude.{vec_capacity}
use Rattle.latch_table.specs.Opening.{Grows, IsGone}
use Rattle.latch_table.specs.Tables.{pieces_in, shape_of}
use Rattle.latch_table.proofs.open.seat_all.Given as goal

abbrev pub invariant-loop-row : goal.invariant-loop-row
invariant-loop-row g l =
    Grows (g.L.Law.start (shape_of l.table)) l.table l.seats.items
    × All (IsGone (pieces_in l.table)) l.rows.items
    × (length l.rows.items + length l.seats.items ≡ (shape_of l.table).seats)
    × (0 < length l.seats.items)
    × ((shape_of l.table).seats ≤ vec_capacity l.seats)

abbrev pub decreases-loop-row : goal.decreases-loop-row
decreases-loop-row g l = length l.rows.items
