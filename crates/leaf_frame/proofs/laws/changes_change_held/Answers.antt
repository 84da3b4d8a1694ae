use Rattle.leaf_frame.proofs.Holding.{changes_change_held}
use Rattle.leaf_frame.proofs.laws.changes_change_held.Goals as goal

pub returns : goal.returns
returns c = changes_change_held
