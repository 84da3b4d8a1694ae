use Rattle.txn_table.proofs.Standing.{calls-stand}
use Rattle.txn_table.proofs.calls_stand.Goals as goal

pub returns : goal.returns
returns c = calls-stand
