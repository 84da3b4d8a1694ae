use Rattle.engine_world.specs.Evicting.{NoneWroteIn}
use Rattle.engine.proofs.EachBelow.{EachBelow}
use Rattle.engine.proofs.evicting.writer_in.Given as goal

abbrev pub invariant-loop-at : goal.invariant-loop-at
invariant-loop-at l = EachBelow (NoneWroteIn l.frame) l.sessions l.at
