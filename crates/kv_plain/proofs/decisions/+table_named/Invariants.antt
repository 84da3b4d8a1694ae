use Rattle.std.proofs.Common.{length}
use Rattle.kv_plain.proofs.decisions.+table_named.Given as goal

abbrev pub decreases-table_named : goal.decreases-table_named
decreases-table_named l = length l.history.now
