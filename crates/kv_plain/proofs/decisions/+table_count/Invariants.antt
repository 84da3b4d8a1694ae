use Rattle.std.proofs.Common.{length}
use Rattle.kv_plain.proofs.decisions.+table_count.Given as goal

abbrev pub decreases-table_count : goal.decreases-table_count
decreases-table_count l = length l.history.now
