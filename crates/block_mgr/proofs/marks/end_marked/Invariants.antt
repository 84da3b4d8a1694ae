use Rattle.std.proofs.Common.{◌≡◌, ◌<◌, ℕ, length, get_or}
use Rattle.extent_list.specs.Space.{end_of}
use Rattle.block_mgr.specs.Cells.{AreUnits, cell_at, ended_cell}
use Rattle.block_mgr.proofs.marks.end_marked.Given as goal

abbrev pub invariant-loop-i : goal.invariant-loop-i
invariant-loop-i l = record {
  units : AreUnits l.cells.items l.space;
  len : length l.cells.items ≡ length l.initial.cells.items;
  end : end_of l.space ≡ end_of l.initial.space;
  front : (k : ℕ) → k < l.i → cell_at l.cells.items (get_or l.marked k 0) ≡ ended_cell l.is_complete (cell_at l.initial.cells.items (get_or l.marked k 0));
  rest : (u : ℕ) → ((k : ℕ) → k < l.i → get_or l.marked k 0 ≡ u → ⊥) → cell_at l.cells.items u ≡ cell_at l.initial.cells.items u;
}
