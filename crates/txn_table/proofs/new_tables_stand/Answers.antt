use Rattle.txn_table.proofs.Starting.{new-stands}
use Rattle.txn_table.proofs.new_tables_stand.Goals as goal

pub returns : goal.returns
returns c = new-stands
