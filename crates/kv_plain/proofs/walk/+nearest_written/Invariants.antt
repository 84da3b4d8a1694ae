use Rattle.std.proofs.Common.{length}
use Rattle.kv_plain.proofs.walk.+nearest_written.Given as goal

abbrev pub decreases-nearest_written : goal.decreases-nearest_written
decreases-nearest_written l = length l.writes.now
