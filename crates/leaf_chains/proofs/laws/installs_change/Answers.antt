use Rattle.leaf_chains.proofs.Installs.{installs_change}
use Rattle.leaf_chains.proofs.laws.installs_change.Goals as goal

pub returns : goal.returns
returns c = installs_change
