use Rattle.std.proofs.Common.{◌≡◌, drop}
use Rattle.extent_list.specs.Space.{end_of}
use Rattle.block_mgr.specs.Blocks.{Books}
use Rattle.block_mgr.specs.Cells.{AreUnits}
use Rattle.tree_write.specs.Drafts.{addrs_to}
use Rattle.leaf_write.specs.Adds.{AreAdded}
use Rattle.leaf_write.proofs.leaves.give_back.Given as goal

abbrev pub invariant-loop-i : goal.invariant-loop-i
invariant-loop-i l = record {
  added : (before : Books) → AreAdded before (addrs_to l.entries) l.fn.blocks → AreAdded before (addrs_to (drop l.i l.entries)) l.blocks;
  end : end_of l.blocks.space ≡ end_of l.fn.blocks.space;
  units : AreUnits l.fn.blocks.cells l.fn.blocks.space → AreUnits l.blocks.cells l.blocks.space;
  synced : l.blocks.is_synced ≡ l.fn.blocks.is_synced;
  held : l.blocks.is_held ≡ l.fn.blocks.is_held;
}
