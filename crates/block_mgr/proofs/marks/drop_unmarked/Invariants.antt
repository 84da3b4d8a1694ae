use Rattle.std.proofs.Common.{◌≡◌, vec_capacity}
use Rattle.block_mgr.proofs.MarkLemmas.{Walked}
use Rattle.block_mgr.proofs.marks.drop_unmarked.Given as goal

abbrev pub invariant-loop-i : goal.invariant-loop-i
invariant-loop-i l = record {
  walked : Walked l.cells l.initial.marked.items l.marked.items l.i l.kept;
  room : vec_capacity l.marked ≡ vec_capacity l.initial.marked;
}
