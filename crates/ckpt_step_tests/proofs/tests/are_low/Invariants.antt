use Rattle.std.proofs.Common.{take}
use Rattle.ckpt_step.specs.Trees.{AreLow}
use Rattle.ckpt_step_tests.proofs.tests.are_low.Given as goal

abbrev pub invariant-loop-tree : goal.invariant-loop-tree
invariant-loop-tree l = AreLow (take l.tree-index l.trees)
