use Rattle.txn_table.proofs.Pasts.{past-covers}
use Rattle.txn_table.proofs.the_past_covers.Goals as goal

pub returns : goal.returns
returns c = past-covers
