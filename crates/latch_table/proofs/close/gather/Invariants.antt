use Rattle.std.proofs.Common.{◌≡◌, [], false, length}
use Rattle.latch_table.proofs.Ending.{Gathers}
use Rattle.latch_table.proofs.close.gather.Given as goal

abbrev pub invariant-loop-seat : goal.invariant-loop-seat
invariant-loop-seat g l =
    Gathers l.table l.fn.seats.items l.seats.items l.keeper.me.0 × (l.keeper.table_id ≡ l.table.table.shared.table_id)
    × (l.keeper.me.0.spent ≡ false) × (l.keeper.me.0.held ≡ [])

abbrev pub decreases-loop-seat : goal.decreases-loop-seat
decreases-loop-seat g l = length l.seats.items
