use Rattle.tree_dir.proofs.Parting.{first-begins}
use Rattle.tree_dir.proofs.laws.first_begins.Goals as goal

pub returns : goal.returns
returns c = first-begins
