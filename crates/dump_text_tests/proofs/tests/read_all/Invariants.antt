use Rattle.std.proofs.Common.{length}
use Rattle.dump_text_tests.proofs.tests.read_all.Given as goal

abbrev pub decreases-loop-out : goal.decreases-loop-out
decreases-loop-out g l = length l.rows
