use Rattle.std.proofs.Common.{◌≡◌}
use Rattle.call_steps.specs.Written.{leaf_start}
use Rattle.call_steps.proofs.leaves.leaf_start.Given as goal

abbrev pub invariant-loop-at : goal.invariant-loop-at
invariant-loop-at l = leaf_start l.fn.keys l.fn.frame l.fn.left ≡ leaf_start l.keys l.frame l.at

abbrev pub decreases-loop-at : goal.decreases-loop-at
decreases-loop-at l = l.at
