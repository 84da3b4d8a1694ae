use Rattle.std.proofs.Common.{◌≡◌, ℕ, take}
use Rattle.extent_list.specs.Space.{end_of}
use Rattle.block_mgr.specs.Cells.{AreUnits, cell_at}
use Rattle.ckpt_step.specs.Frees.{without_news}
use Rattle.ckpt_step.proofs.books.let_go_of_new.Given as goal

abbrev pub invariant-loop-addr : goal.invariant-loop-addr
invariant-loop-addr l = record {
  cells : (u : ℕ) → cell_at l.blocks.cells u ≡ without_news l.lives u (cell_at l.fn.blocks.cells u) (take l.addr-index l.addrs);
  end : end_of l.blocks.space ≡ end_of l.fn.blocks.space;
  units : AreUnits l.fn.blocks.cells l.fn.blocks.space → AreUnits l.blocks.cells l.blocks.space;
  synced : l.blocks.is_synced ≡ l.fn.blocks.is_synced;
  held : l.blocks.is_held ≡ l.fn.blocks.is_held;
}
