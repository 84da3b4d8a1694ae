use Rattle.engine_start.proofs.TablesAdded.{entry_added}
use Rattle.engine_start.proofs.unread.leaves_are_added.Goals as goal

pub returns : goal.returns
returns c = entry_added
