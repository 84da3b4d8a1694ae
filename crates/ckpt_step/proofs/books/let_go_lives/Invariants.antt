use Rattle.std.proofs.Common.{◌≡◌, ℕ, length}
use Rattle.extent_list.specs.Space.{end_of}
use Rattle.block_mgr.specs.Cells.{AreUnits, cell_at}
use Rattle.ckpt_step.specs.Frees.{without_news}
use Rattle.ckpt_step.specs.Lives.{addrs_in}
use Rattle.ckpt_step.proofs.books.let_go_lives.Given as goal

abbrev pub invariant-loop-lone : goal.invariant-loop-lone
invariant-loop-lone l = record {
  cells : (u : ℕ) → without_news l.others u (cell_at l.blocks.cells u) (addrs_in l.lives) ≡ without_news l.others u (cell_at l.fn.blocks.cells u) (addrs_in l.fn.lives);
  end : end_of l.blocks.space ≡ end_of l.fn.blocks.space;
  units : AreUnits l.fn.blocks.cells l.fn.blocks.space → AreUnits l.blocks.cells l.blocks.space;
  synced : l.blocks.is_synced ≡ l.fn.blocks.is_synced;
  held : l.blocks.is_held ≡ l.fn.blocks.is_held;
}

abbrev pub decreases-loop-lone : goal.decreases-loop-lone
decreases-loop-lone l = length l.lives
