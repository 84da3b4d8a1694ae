use Rattle.engine.specs.Waits.{turns_in}
use Rattle.engine.proofs.Ending.{IsOnWay}
use Rattle.engine.proofs.parts.Parts.finish.Given as goal

abbrev pub invariant-loop-answer : goal.invariant-loop-answer
invariant-loop-answer l = IsOnWay l.initial.self l.self l.session

abbrev pub decreases-loop-answer : goal.decreases-loop-answer
decreases-loop-answer l = turns_in l.self l.session
