use Rattle.std.proofs.Common.{◌≡◌}
use Rattle.call_steps.specs.Leaves.{leaf_prev}
use Rattle.call_steps.proofs.leaves.leaf_prev.Given as goal

abbrev pub invariant-loop-at : goal.invariant-loop-at
invariant-loop-at l = leaf_prev l.fn.keys l.fn.frame l.fn.left l.fn.leaf l.fn.prev ≡ leaf_prev l.keys l.frame l.at l.leaf l.most

abbrev pub decreases-loop-at : goal.decreases-loop-at
decreases-loop-at l = l.at
