use Rattle.tree_dir.proofs.Parting.{under-has}
use Rattle.tree_dir.proofs.laws.under_has.Goals as goal

pub returns : goal.returns
returns c = under-has
