use Rattle.engine.proofs.Closes.{NoneAtWork}
use Rattle.engine.proofs.parts.Parts.at_work.Given as goal

abbrev pub invariant-loop-session : goal.invariant-loop-session
invariant-loop-session l = NoneAtWork l.self-inside.sessions.items l.session
