use Rattle.std.proofs.Common.{sym, subst, List}
use Rattle.row_page.specs.Rows.{Row}
use Rattle.leaf_rows.specs.Rows.{AreFit}
use Rattle.leaf_rows.proofs.rows.Rows.of_leaf.Goals as goal

pub invariant_of-result : goal.invariant_of-result
invariant_of-result c = subst (λ (l : List Row). AreFit l) (sym c.in_ok-rows.ensures) c.requires
