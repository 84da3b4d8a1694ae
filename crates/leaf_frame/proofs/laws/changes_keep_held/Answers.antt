use Rattle.leaf_frame.proofs.Holding.{changes_keep_held}
use Rattle.leaf_frame.proofs.laws.changes_keep_held.Goals as goal

pub returns : goal.returns
returns c = changes_keep_held
