use Rattle.tree_dir.proofs.Parting.{keys-have}
use Rattle.tree_dir.proofs.laws.keys_have_leaves.Goals as goal

pub returns : goal.returns
returns c = keys-have
