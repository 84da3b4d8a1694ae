use Rattle.txn_table.proofs.Bounds.{lowest-are}
use Rattle.txn_table.proofs.lowest_are_the_machines.Goals as goal

pub returns : goal.returns
returns c = lowest-are
