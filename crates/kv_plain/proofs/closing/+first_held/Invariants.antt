use Rattle.std.proofs.Common.{length}
use Rattle.kv_plain.proofs.closing.+first_held.Given as goal

abbrev pub decreases-first_held : goal.decreases-first_held
decreases-first_held l = length l.sessions.now
