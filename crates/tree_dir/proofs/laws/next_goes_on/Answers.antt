use Rattle.tree_dir.proofs.Parting.{next-goes-on}
use Rattle.tree_dir.proofs.laws.next_goes_on.Goals as goal

pub returns : goal.returns
returns c = next-goes-on
