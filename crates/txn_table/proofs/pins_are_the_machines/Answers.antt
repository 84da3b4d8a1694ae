use Rattle.txn_table.proofs.Bounds.{pins-same}
use Rattle.txn_table.proofs.pins_are_the_machines.Goals as goal

pub returns : goal.returns
returns c = pins-same
