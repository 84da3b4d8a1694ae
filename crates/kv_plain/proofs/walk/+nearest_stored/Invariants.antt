use Rattle.std.proofs.Common.{length}
use Rattle.kv_plain.proofs.walk.+nearest_stored.Given as goal

abbrev pub decreases-nearest_stored : goal.decreases-nearest_stored
decreases-nearest_stored l = length l.history.now
