use Rattle.txn_table.proofs.Unended.{Counting}
use Rattle.txn_table.proofs.txns.Txns.checkpoint_snapshot.Given as goal

abbrev pub invariant-loop-state : goal.invariant-loop-state
invariant-loop-state l = Counting l.self.run l.self.next l.state-items l.state-index l.initial.snapshot.room l.snapshot
