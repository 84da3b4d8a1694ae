use Rattle.std.proofs.Common.{◌-◌, List, [], drop, length}
use Rattle.row_page.specs.Rows.{Row}
use Rattle.leaf_rows.specs.Rows.{AreFit}
use Rattle.reconcile.specs.Held.{page_rows}
use Rattle.reconcile.specs.Making.{MadeTo}
use Rattle.reconcile.specs.Merged.{all_kept, merged}
use Rattle.reconcile.proofs.made.make_rest.Given as goal

abbrev pub invariant-loop-cell : goal.invariant-loop-cell
invariant-loop-cell l = (all : List (List Row)) → AreFit (all_kept l.rule.live all) → MadeTo l.rule l.fn.making (merged [] (drop l.from (page_rows l.page))) all → MadeTo l.rule l.making (merged [] (drop l.at (page_rows l.page))) all

abbrev pub decreases-loop-cell : goal.decreases-loop-cell
decreases-loop-cell l = length (page_rows l.page) - l.at
