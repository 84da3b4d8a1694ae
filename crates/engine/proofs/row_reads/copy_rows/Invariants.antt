use Rattle.std.proofs.Common.{◌-◌, length}
use Rattle.std.specs.Prelude.{option_map}
use Rattle.wt_calls.specs.Calls.{way_in}
use Rattle.engine.proofs.CopyingRows.{Copied}
use Rattle.engine.proofs.row_reads.copy_rows.Given as goal

abbrev pub invariant-loop-walk : goal.invariant-loop-walk
invariant-loop-walk l = Copied l.view (way_in l.fn.way) (option_map (λ k. k.now) l.fn.from) l.walk l.leaf l.most l.rows

abbrev pub decreases-loop-walk : goal.decreases-loop-walk
decreases-loop-walk l = l.most - length l.rows
