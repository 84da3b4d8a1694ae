use Rattle.engine_world.specs.GivingWay.{RestsWhole}
use Rattle.engine.proofs.EachBelow.{EachBelow}
use Rattle.engine.proofs.parts.Parts.is_idle.Given as goal

abbrev pub invariant-loop-session : goal.invariant-loop-session
invariant-loop-session l = EachBelow RestsWhole l.session-items l.session-index
