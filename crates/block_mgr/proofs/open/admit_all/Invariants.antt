use Rattle.std.proofs.Common.{◌≡◌, ℕ, take}
use Rattle.extent_list.specs.Space.{end_of}
use Rattle.block_mgr.specs.Cells.{AreUnits, cell_at}
use Rattle.block_mgr.specs.Open.{AgreeUpTo, found_cell}
use Rattle.block_mgr.proofs.open.admit_all.Given as goal

abbrev pub invariant-loop-i : goal.invariant-loop-i
invariant-loop-i l = record {
  units : AreUnits l.cells.items l.space;
  cells : (u : ℕ) → cell_at l.cells.items u ≡ found_cell (take l.i l.found) u;
  agree : AgreeUpTo l.found l.i;
  end : end_of l.space ≡ l.fn.end;
}
