use Rattle.std.specs.Prelude.{◌≢◌, Some}
use Rattle.call_steps.specs.State.{State}
use Rattle.engine_world.specs.Parting.{table_walked}
use Rattle.engine.proofs.EachBelow.{EachBelow}
use Rattle.engine.proofs.parting.session_walking.Given as goal

abbrev pub invariant-loop-at : goal.invariant-loop-at
invariant-loop-at l = EachBelow (λ (a : State). table_walked a.stage ≢ Some l.table) l.sessions l.at
