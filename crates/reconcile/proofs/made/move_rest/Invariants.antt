use Rattle.std.proofs.Common.{◌≡◌, ◌++◌, map, length}
use Rattle.std.specs.Prelude.{filter}
use Rattle.kv_model.specs.History.{down_to}
use Rattle.row_page.specs.Rows.{Row}
use Rattle.reconcile.specs.Held.{lives, passes}
use Rattle.reconcile.specs.Making.{left}
use Rattle.reconcile.specs.Merged.{moved_row}
use Rattle.reconcile.proofs.made.move_rest.Given as goal

abbrev pub invariant-loop-cell : goal.invariant-loop-cell
invariant-loop-cell l = l.moved.items ++ map moved_row (down_to (λ (r : Row). passes l.rule.pin l.rule.floor r.1.window) (filter (λ (r : Row). lives l.rule.live r.1.window) (left l.held)))
    ≡ l.fn.moved.items ++ map moved_row (down_to (λ (r : Row). passes l.rule.pin l.rule.floor r.1.window) (filter (λ (r : Row). lives l.rule.live r.1.window) (left l.fn.held)))

abbrev pub decreases-loop-cell : goal.decreases-loop-cell
decreases-loop-cell l = length (filter (λ (r : Row). lives l.rule.live r.1.window) (left l.held))
