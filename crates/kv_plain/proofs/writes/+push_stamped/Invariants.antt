use Rattle.std.proofs.Common.{length}
use Rattle.kv_plain.proofs.writes.+push_stamped.Given as goal

abbrev pub decreases-push_stamped : goal.decreases-push_stamped
decreases-push_stamped l = length l.writes.now
