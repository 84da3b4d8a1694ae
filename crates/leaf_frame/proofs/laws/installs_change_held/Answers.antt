use Rattle.leaf_frame.proofs.Holding.{installs_change_held}
use Rattle.leaf_frame.proofs.laws.installs_change_held.Goals as goal

pub returns : goal.returns
returns c = installs_change_held
