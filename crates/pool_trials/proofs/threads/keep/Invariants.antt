use Rattle.std.proofs.Common.{◌<◌, ◌^◌, ℕ}
use Rattle.latch_table.specs.Tables.{SameSeat}
use Rattle.pool_trials.specs.Trials.{IsKeeper}
use Rattle.pool_trials.proofs.threads.keep.Given as goal

abbrev pub invariant-loop : goal.invariant-loop
invariant-loop l = ((word : ℕ) × IsKeeper l.pool.pieces l.seat word) × SameSeat l.initial.seat l.seat × (l.guess.other < 2 ^ 62)
