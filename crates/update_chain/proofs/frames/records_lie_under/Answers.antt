use Rattle.update_chain.proofs.Lying.{records-lie-under}
use Rattle.update_chain.proofs.frames.records_lie_under.Goals as goal

pub returns : goal.returns
returns c = records-lie-under
