use Rattle.std.proofs.Common.{◌≡◌, ℕ}
use Rattle.latch_table.specs.Tables.{number_of_seat}
use Rattle.pool_trials.specs.Trials.{IsKeeper}
use Rattle.latch_bench.proofs.pins.Given as goal

abbrev pub invariant-loop : goal.invariant-loop
invariant-loop l = ((word : ℕ) × IsKeeper l.pool.pieces l.one word) × (number_of_seat l.one ≡ 0)
