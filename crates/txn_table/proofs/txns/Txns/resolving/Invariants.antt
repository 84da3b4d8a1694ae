use Rattle.txn_table.specs.SessionData.{is_resolving}
use Rattle.txn_table.proofs.LookLemmas.{NoneBefore}
use Rattle.txn_table.proofs.txns.Txns.resolving.Given as goal

abbrev pub invariant-loop-session : goal.invariant-loop-session
invariant-loop-session l = NoneBefore is_resolving l.self-inside.sessions.items l.session
