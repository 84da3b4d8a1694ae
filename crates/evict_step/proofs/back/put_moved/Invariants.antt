use Rattle.std.specs.Prelude.{vec_len}
use Rattle.evict_step.proofs.BroughtBack.{PutsMoved}
use Rattle.evict_step.proofs.back.put_moved.Given as goal

abbrev pub invariant-loop-last : goal.invariant-loop-last
invariant-loop-last l = PutsMoved l.fn.moved.items l.moved.items l.fn.leaf l.leaf

abbrev pub decreases-loop-last : goal.decreases-loop-last
decreases-loop-last l = vec_len l.moved
