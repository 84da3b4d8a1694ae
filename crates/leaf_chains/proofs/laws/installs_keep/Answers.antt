use Rattle.leaf_chains.proofs.Installs.{installs_keep}
use Rattle.leaf_chains.proofs.laws.installs_keep.Goals as goal

pub returns : goal.returns
returns c = installs_keep
