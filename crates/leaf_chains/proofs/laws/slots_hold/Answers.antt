use Rattle.leaf_chains.proofs.Changes.{held}
use Rattle.leaf_chains.proofs.laws.slots_hold.Goals as goal

pub returns : goal.returns
returns c = held
