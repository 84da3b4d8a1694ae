use Rattle.leaf_frame.proofs.Holding.{installs_keep_held}
use Rattle.leaf_frame.proofs.laws.installs_keep_held.Goals as goal

pub returns : goal.returns
returns c = installs_keep_held
