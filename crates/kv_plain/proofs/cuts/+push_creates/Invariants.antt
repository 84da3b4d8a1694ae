use Rattle.std.proofs.Common.{length}
use Rattle.kv_plain.proofs.cuts.+push_creates.Given as goal

abbrev pub decreases-push_creates : goal.decreases-push_creates
decreases-push_creates l = length l.history.now
