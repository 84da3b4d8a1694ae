use Rattle.std.proofs.Common.{length}
use Rattle.kv_plain.proofs.looks.+find_write.Given as goal

abbrev pub decreases-find_write : goal.decreases-find_write
decreases-find_write l = length l.writes.now
