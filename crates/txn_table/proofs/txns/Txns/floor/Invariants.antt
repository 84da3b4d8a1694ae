use Rattle.txn_table.specs.Tabled.{min_of}
use Rattle.txn_table.proofs.LookLemmas.{Lowering}
use Rattle.txn_table.proofs.txns.Txns.floor.Given as goal

abbrev pub invariant-loop-state : goal.invariant-loop-state
invariant-loop-state l = Lowering min_of l.state-items l.initial.id l.state-index l.id
