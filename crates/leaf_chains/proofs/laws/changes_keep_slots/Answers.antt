use Rattle.leaf_chains.proofs.Changes.{kept_slots}
use Rattle.leaf_chains.proofs.laws.changes_keep_slots.Goals as goal

pub returns : goal.returns
returns c = kept_slots
