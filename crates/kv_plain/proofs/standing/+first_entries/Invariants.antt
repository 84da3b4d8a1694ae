use Rattle.std.proofs.Common.{length}
use Rattle.kv_plain.proofs.standing.+first_entries.Given as goal

abbrev pub decreases-first_entries : goal.decreases-first_entries
decreases-first_entries l = length l.history.now
