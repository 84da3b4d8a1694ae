use Rattle.std.proofs.Common.{length}
use Rattle.kv_plain.proofs.reads.+find_holder.Given as goal

abbrev pub decreases-find_holder : goal.decreases-find_holder
decreases-find_holder l = length l.sessions.now
