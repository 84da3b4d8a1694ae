use Rattle.std.proofs.Common.{◌+◌, ◌-◌, ◌/◌, ◌∙◌, List, None, sym, ap, subst, arith}
use Rattle.std.specs.Ordering.{is_lt}
use Rattle.row_page.specs.Rows.{Row, Ascends}
use Rattle.row_page.proofs.Ascending.{below_at, not_below_at}
use Rattle.row_page.proofs.leaf.Leaf.first_not_below.Goals as goal

pub loop-low-preserved-then-is_lt : goal.loop-low-preserved-then-is_lt
loop-low-preserved-then-is_lt c = record {
  order = omega (arith, c.loop-low-test.true);
  within = c.loop-low.invariant.within;
  below = below_at c.args.self.now c.args.key.now c.key.result.now (c.loop-low.low + (c.loop-low.high - c.loop-low.low) / 2) (subst (λ (l : List Row). Ascends None l) c.self.view_is c.self.invariant.ascend) c.key.ensures
      (ap is_lt (sym c.order.ensures) ∙ sym c.is_lt.ensures ∙ c.if-is_lt.true);
  above = c.loop-low.invariant.above;
}

pub loop-low-preserved : goal.loop-low-preserved
loop-low-preserved c = record {
  order = omega arith;
  within = omega (arith, c.loop-low-test.true, c.loop-low.invariant.within);
  below = c.loop-low.invariant.below;
  above = not_below_at c.args.self.now c.args.key.now c.key.result.now (c.loop-low.low + (c.loop-low.high - c.loop-low.low) / 2) (subst (λ (l : List Row). Ascends None l) c.self.view_is c.self.invariant.ascend) c.key.ensures
      (ap is_lt (sym c.order.ensures) ∙ sym c.is_lt.ensures ∙ c.if-is_lt.false);
}
