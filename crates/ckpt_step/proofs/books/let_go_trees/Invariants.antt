use Rattle.std.proofs.Common.{◌≡◌, ℕ, take}
use Rattle.extent_list.specs.Space.{end_of}
use Rattle.block_mgr.specs.Cells.{AreUnits, cell_at}
use Rattle.ckpt_step.specs.Frees.{without_all}
use Rattle.ckpt_step.specs.Trees.{addrs_of, left_by}
use Rattle.ckpt_step.proofs.books.let_go_trees.Given as goal

abbrev pub invariant-loop-place : goal.invariant-loop-place
invariant-loop-place l = record {
  cells : (u : ℕ) → cell_at l.blocks.cells u ≡ without_all u (cell_at l.fn.blocks.cells u) (addrs_of (left_by (take l.place l.trees) l.told));
  end : end_of l.blocks.space ≡ end_of l.fn.blocks.space;
  units : AreUnits l.fn.blocks.cells l.fn.blocks.space → AreUnits l.blocks.cells l.blocks.space;
  synced : l.blocks.is_synced ≡ l.fn.blocks.is_synced;
  held : l.blocks.is_held ≡ l.fn.blocks.is_held;
}
