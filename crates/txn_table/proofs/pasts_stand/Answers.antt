use Rattle.txn_table.proofs.Pasts.{pasts-stand}
use Rattle.txn_table.proofs.pasts_stand.Goals as goal

pub returns : goal.returns
returns c = pasts-stand
