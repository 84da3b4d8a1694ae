use Rattle.std.proofs.Common.{◌≡◌, ◌≤◌, length}
use Rattle.std.specs.Prelude.{vec_capacity}
use Rattle.ckpt_step.proofs.Places.{half_placed}
use Rattle.ckpt_step.proofs.writing.put_trees.Given as goal

abbrev pub invariant-loop-tree : goal.invariant-loop-tree
invariant-loop-tree l = record {
  place : l.place ≡ length l.yielded;
  items : l.places.items ≡ half_placed l.fn.places.items l.yielded;
  room : vec_capacity l.fn.places ≤ vec_capacity l.places;
}
