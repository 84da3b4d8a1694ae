use Rattle.txn_table.specs.Tabled.{read_of}
use Rattle.txn_table.proofs.LookLemmas.{Lowering}
use Rattle.txn_table.proofs.txns.Txns.pin_stamp.Given as goal

abbrev pub invariant-loop-state : goal.invariant-loop-state
invariant-loop-state l = Lowering read_of l.state-items l.initial.pin l.state-index l.pin
