use Rattle.std.proofs.Common.{length}
use Rattle.tree_dir.specs.Leaves.{leaves_of}
use Rattle.engine_store.specs.Marked.{HasAll}
use Rattle.engine_store.proofs.MarkedIds.{AreDone}
use Rattle.engine_store.proofs.marked.push_marked.Given as goal

abbrev pub invariant-loop-leaf : goal.invariant-loop-leaf
invariant-loop-leaf l = record {
  kept : HasAll l.marked.items l.fn.marked.items;
  done : AreDone l.marks (leaves_of l.table l.leaves.leaves) l.left l.marked.items;
}

abbrev pub decreases-loop-leaf : goal.decreases-loop-leaf
decreases-loop-leaf l = length l.left
