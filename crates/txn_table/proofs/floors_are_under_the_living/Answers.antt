use Rattle.txn_table.proofs.Pasts.{floors-under}
use Rattle.txn_table.proofs.floors_are_under_the_living.Goals as goal

pub returns : goal.returns
returns c = floors-under
