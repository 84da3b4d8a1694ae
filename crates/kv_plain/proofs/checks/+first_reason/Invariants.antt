use Rattle.std.proofs.Common.{length}
use Rattle.kv_plain.proofs.checks.+first_reason.Given as goal

abbrev pub decreases-first_reason : goal.decreases-first_reason
decreases-first_reason l = length l.rules.now
