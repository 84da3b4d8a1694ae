use Rattle.txn_table.proofs.Capturing.{checkpoints-see}
use Rattle.txn_table.proofs.checkpoints_see.Goals as goal

pub returns : goal.returns
returns c = checkpoints-see
