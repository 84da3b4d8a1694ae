use Rattle.std.proofs.Common.{length}
use Rattle.kv_plain.proofs.standing.+push_standing.Given as goal

abbrev pub decreases-push_standing : goal.decreases-push_standing
decreases-push_standing l = length l.history.now
