use Rattle.std.proofs.Common.{length}
use Rattle.kv_plain.proofs.decisions.+first_active.Given as goal

abbrev pub decreases-first_active : goal.decreases-first_active
decreases-first_active l = length l.sessions.now
