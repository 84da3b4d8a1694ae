use Rattle.leaf_chains.proofs.Installs.{installs_keep_slots}
use Rattle.leaf_chains.proofs.laws.installs_keep_slots.Goals as goal

pub returns : goal.returns
returns c = installs_keep_slots
