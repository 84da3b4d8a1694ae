use Rattle.leaf_chains.proofs.Changes.{changed_chain}
use Rattle.leaf_chains.proofs.laws.changes_change.Goals as goal

pub returns : goal.returns
returns c = changed_chain
