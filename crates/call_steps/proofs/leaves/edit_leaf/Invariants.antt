use Rattle.std.proofs.Common.{◌≡◌}
use Rattle.call_steps.specs.Leaves.{leaf_changed, edited}
use Rattle.call_steps.proofs.leaves.edit_leaf.Given as goal

abbrev pub invariant-loop-at : goal.invariant-loop-at
invariant-loop-at l = record l.fn.leaf { chains = leaf_changed (edited l.fn.name l.fn.edit) l.fn.keys l.fn.frame l.fn.left l.fn.leaf.chains } ≡ record l.leaf { chains = leaf_changed (edited l.name l.edit) l.keys l.frame l.at l.leaf.chains }

abbrev pub decreases-loop-at : goal.decreases-loop-at
decreases-loop-at l = l.at
