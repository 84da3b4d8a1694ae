use Rattle.std.proofs.Common.{◌≡◌, ◌++◌}
use Rattle.std.specs.Prelude.{vec_capacity}
use Rattle.engine.proofs.Running.{HasRun}
use Rattle.engine.proofs.runs.make_each.Given as goal

abbrev pub invariant-loop-step : goal.invariant-loop-step
invariant-loop-step l = record {
  run : HasRun l.fn.local l.local l.yielded l.replies.items;
  capacity : vec_capacity l.replies ≡ vec_capacity l.fn.replies;
  left : l.yielded ++ l.step-iterator.rest.items ≡ l.fn.steps.items;
}
