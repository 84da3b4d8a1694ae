use Rattle.std.proofs.Common.{◌≡◌, ◌≤◌, ◌+◌, ◌++◌, ℕ, length}
use Rattle.std.specs.Prelude.{vec_capacity}
use Rattle.evict_step.specs.Kept.{fresh_of, lying_in}
use Rattle.evict_step.proofs.fresh.put_moved.Given as goal

abbrev pub invariant-loop-one : goal.invariant-loop-one
invariant-loop-one l = record {
  put : (id : ℕ) → fresh_of l.room.items id ≡ fresh_of l.fn.room.items id ++ lying_in l.leaves.leaves l.table l.yielded id;
  few : length l.room.items ≤ length l.fn.room.items + length l.yielded;
  capacity : vec_capacity l.room ≡ vec_capacity l.fn.room;
}
