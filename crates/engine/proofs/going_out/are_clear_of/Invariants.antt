use Rattle.engine_world.specs.GoingOut.{IsClearOf}
use Rattle.engine.proofs.EachBelow.{EachBelow}
use Rattle.engine.proofs.going_out.are_clear_of.Given as goal

abbrev pub invariant-loop-session : goal.invariant-loop-session
invariant-loop-session l = EachBelow (IsClearOf l.frame) l.sessions l.session-index
