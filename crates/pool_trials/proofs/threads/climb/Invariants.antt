use Rattle.std.proofs.Common.{◌≡◌}
use Rattle.latch_table.specs.Closing.{IsIdle}
use Rattle.latch_table.specs.Tables.{SameSeat, pieces_in}
use Rattle.pool_trials.proofs.threads.climb.Given as goal

abbrev pub invariant-loop-turn : goal.invariant-loop-turn
invariant-loop-turn g l = IsIdle l.table l.seat × SameSeat l.initial.seat l.seat × (pieces_in l.table ≡ 3)
