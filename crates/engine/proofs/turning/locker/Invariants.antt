use Rattle.engine.proofs.Lockers.{NoneBelow}
use Rattle.engine.proofs.turning.locker.Given as goal

abbrev pub invariant-loop-at : goal.invariant-loop-at
invariant-loop-at l = NoneBelow l.evicting l.but l.frame l.word l.at
