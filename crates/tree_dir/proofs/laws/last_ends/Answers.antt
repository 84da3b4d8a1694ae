use Rattle.tree_dir.proofs.Parting.{last-ends}
use Rattle.tree_dir.proofs.laws.last_ends.Goals as goal

pub returns : goal.returns
returns c = last-ends
