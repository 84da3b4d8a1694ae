use Rattle.std.proofs.Common.{◌≡◌, ◌++◌, map, take, drop, None}
use Rattle.call_steps.specs.State.{placed}
use Rattle.call_steps.proofs.state.unplace.Given as goal

abbrev pub invariant-loop-cursor : goal.invariant-loop-cursor
invariant-loop-cursor l = l.cursors ≡ map (placed None) (take l.cursor-index l.initial.cursors) ++ drop l.cursor-index l.initial.cursors
