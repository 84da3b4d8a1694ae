use Rattle.engine.proofs.RollingBack.{IsRolledTo}
use Rattle.engine.proofs.parts.Parts.roll_back_all.Given as goal

abbrev pub invariant-loop-session : goal.invariant-loop-session
invariant-loop-session l = IsRolledTo l.initial.self l.self l.session
