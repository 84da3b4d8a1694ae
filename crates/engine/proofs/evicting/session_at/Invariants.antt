use Rattle.engine_world.specs.GoingOut.{IsAside}
use Rattle.engine.proofs.EachBelow.{EachBelow}
use Rattle.engine.proofs.evicting.session_at.Given as goal

abbrev pub invariant-loop-at : goal.invariant-loop-at
invariant-loop-at l = EachBelow (IsAside l.frame) l.sessions l.at
