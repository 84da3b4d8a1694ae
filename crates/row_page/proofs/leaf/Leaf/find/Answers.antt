use Rattle.std.proofs.Common.{◌∙◌, List, None, sym, subst}
use Rattle.row_page.specs.Rows.{Row, Ascends}
use Rattle.row_page.proofs.Steps.{equal_is}
use Rattle.row_page.proofs.Ascending.{splits_at}
use Rattle.row_page.proofs.leaf.Leaf.find.Goals as goal

pub returns-in-Equal : goal.returns-in-Equal
returns-in-Equal c = (c.key.ensures.0, c.key.ensures.1, c.key.ensures.2 ∙ equal_is c.key.result.now c.args.key.now (sym c.order.ensures ∙ c.in-Equal.is))

pub returns-in_default : goal.returns-in_default
returns-in_default c =
    splits_at c.args.self.now c.args.key.now c.key.result.now c.first_not_below-i.result (subst (λ (l : List Row). Ascends None l) c.self.view_is c.self.invariant.ascend) c.first_not_below-i.ensures c.key.ensures (λ e. c.in_default.not-Equal (c.order.ensures ∙ e))
