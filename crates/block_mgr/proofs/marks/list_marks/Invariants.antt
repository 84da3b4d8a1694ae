use Rattle.std.proofs.Common.{◌≤◌, length, vec_capacity}
use Rattle.block_mgr.specs.Marks.{ListedTo}
use Rattle.block_mgr.proofs.marks.list_marks.Given as goal

abbrev pub invariant-loop-u : goal.invariant-loop-u
invariant-loop-u l = record {
  to : ListedTo l.cells l.marked.items l.u;
  room : length l.cells ≤ vec_capacity l.marked;
}
