use Rattle.std.proofs.Common.{length}
use Rattle.kv_plain.proofs.cuts.+push_commits.Given as goal

abbrev pub decreases-push_commits : goal.decreases-push_commits
decreases-push_commits l = length l.placed.now
