use Rattle.txn_table.specs.SessionData.{is_busy}
use Rattle.txn_table.proofs.LookLemmas.{NoneBefore}
use Rattle.txn_table.proofs.txns.Txns.active.Given as goal

abbrev pub invariant-loop-session : goal.invariant-loop-session
invariant-loop-session l = NoneBefore is_busy l.self-inside.sessions.items l.session
