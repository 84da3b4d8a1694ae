use Rattle.std.proofs.Common.{length}
use Rattle.kv_plain.proofs.reads.+is_prepared.Given as goal

abbrev pub decreases-is_prepared : goal.decreases-is_prepared
decreases-is_prepared l = length l.history.now
