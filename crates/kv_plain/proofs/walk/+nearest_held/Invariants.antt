use Rattle.std.proofs.Common.{length}
use Rattle.kv_plain.proofs.walk.+nearest_held.Given as goal

abbrev pub decreases-nearest_held : goal.decreases-nearest_held
decreases-nearest_held l = length l.sessions.now
