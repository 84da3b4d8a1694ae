use Rattle.std.proofs.Common.{◌≡◌, ◌++◌}
use Rattle.std.specs.Prelude.{vec_capacity}
use Rattle.evict_step.proofs.fresh.put_over.Given as goal

abbrev pub invariant-loop-other : goal.invariant-loop-other
invariant-loop-other l = record {
  items : l.room.items ≡ l.fn.room.items ++ l.yielded;
  capacity : vec_capacity l.room ≡ vec_capacity l.fn.room;
}
