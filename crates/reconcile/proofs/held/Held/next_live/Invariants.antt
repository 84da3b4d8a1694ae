use Rattle.std.proofs.Common.{◌≡◌, length}
use Rattle.std.specs.Prelude.{filter}
use Rattle.row_page.specs.Rows.{Row}
use Rattle.reconcile.specs.Held.{lives}
use Rattle.reconcile.specs.Making.{left}
use Rattle.reconcile.proofs.held.Held.next_live.Given as goal

abbrev pub invariant-loop-cell : goal.invariant-loop-cell
invariant-loop-cell l = filter (λ (r : Row). lives l.rule.live r.1.window) (left l.fn.self) ≡ filter (λ (r : Row). lives l.rule.live r.1.window) (left l.self)

abbrev pub decreases-loop-cell : goal.decreases-loop-cell
decreases-loop-cell l = length (left l.self)
