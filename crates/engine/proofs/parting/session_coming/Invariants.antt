use Rattle.std.specs.Prelude.{◌≢◌, Some}
use Rattle.call_steps.specs.State.{State}
use Rattle.engine_world.specs.Parting.{leaf_ahead_of}
use Rattle.engine.proofs.EachBelow.{EachBelow}
use Rattle.engine.proofs.parting.session_coming.Given as goal

abbrev pub invariant-loop-at : goal.invariant-loop-at
invariant-loop-at l = EachBelow (λ (a : State). leaf_ahead_of a.stage ≢ Some l.leaf) l.sessions l.at
