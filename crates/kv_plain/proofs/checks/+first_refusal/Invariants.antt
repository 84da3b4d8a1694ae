use Rattle.std.proofs.Common.{length}
use Rattle.kv_plain.proofs.checks.+first_refusal.Given as goal

abbrev pub decreases-first_refusal : goal.decreases-first_refusal
decreases-first_refusal l = length l.checks.now
