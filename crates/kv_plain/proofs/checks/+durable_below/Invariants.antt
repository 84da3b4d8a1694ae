use Rattle.std.proofs.Common.{length}
use Rattle.kv_plain.proofs.checks.+durable_below.Given as goal

abbrev pub decreases-durable_below : goal.decreases-durable_below
decreases-durable_below l = length l.writes.now
