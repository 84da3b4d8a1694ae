use Rattle.std.proofs.Common.{length}
use Rattle.kv_plain.proofs.decisions.+first_resolving.Given as goal

abbrev pub decreases-first_resolving : goal.decreases-first_resolving
decreases-first_resolving l = length l.sessions.now
