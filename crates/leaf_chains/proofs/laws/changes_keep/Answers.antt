use Rattle.leaf_chains.proofs.Changes.{kept_chain}
use Rattle.leaf_chains.proofs.laws.changes_keep.Goals as goal

pub returns : goal.returns
returns c = kept_chain
