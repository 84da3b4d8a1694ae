use Rattle.std.proofs.Common.{length}
use Rattle.kv_plain.proofs.closing.+push_rollbacks.Given as goal

abbrev pub decreases-push_rollbacks : goal.decreases-push_rollbacks
decreases-push_rollbacks l = length l.sessions.now
