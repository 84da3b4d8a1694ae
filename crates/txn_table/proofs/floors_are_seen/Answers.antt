use Rattle.txn_table.proofs.Bounds.{floors-seen}
use Rattle.txn_table.proofs.floors_are_seen.Goals as goal

pub returns : goal.returns
returns c = floors-seen
