use Rattle.std.proofs.Common.{◌≡◌}
use Rattle.latch_table.specs.Closing.{IsIdle}
use Rattle.latch_table.specs.Tables.{pieces_in}
use Rattle.latch_bench.proofs.latches.Given as goal

abbrev pub invariant-loop : goal.invariant-loop
invariant-loop g l = IsIdle l.table l.one × (pieces_in l.table ≡ 3)
