use Rattle.std.proofs.Common.{length}
use Rattle.kv_plain.proofs.reads.+find_met.Given as goal

abbrev pub decreases-find_met : goal.decreases-find_met
decreases-find_met l = length l.sessions.now
