use Rattle.std.proofs.Common.{◌≡◌, length}
use Rattle.tree_dir.specs.Leaves.{leaves_of}
use Rattle.ckpt_step.specs.Holding.{with_all_live}
use Rattle.ckpt_step.proofs.writing.add_lives.Given as goal

abbrev pub invariant-loop-leaf : goal.invariant-loop-leaf
invariant-loop-leaf l = with_all_live l.lives l.others l.leaves ≡ with_all_live l.lives l.fn.others (leaves_of l.table l.engine.hub.dir.leaves)

abbrev pub decreases-loop-leaf : goal.decreases-loop-leaf
decreases-loop-leaf l = length l.leaves
