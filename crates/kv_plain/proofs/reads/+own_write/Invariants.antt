use Rattle.std.proofs.Common.{length}
use Rattle.kv_plain.proofs.reads.+own_write.Given as goal

abbrev pub decreases-own_write : goal.decreases-own_write
decreases-own_write l = length l.writes.now
