use Rattle.txn_table.proofs.Capturing.{ended-are-seen}
use Rattle.txn_table.proofs.ended_are_seen.Goals as goal

pub returns : goal.returns
returns c = ended-are-seen
