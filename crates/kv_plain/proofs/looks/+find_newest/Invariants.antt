use Rattle.std.proofs.Common.{length}
use Rattle.kv_plain.proofs.looks.+find_newest.Given as goal

abbrev pub decreases-find_newest : goal.decreases-find_newest
decreases-find_newest l = length l.history.now
