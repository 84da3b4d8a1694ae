use Rattle.tree_dir.proofs.Parting.{ids-name}
use Rattle.tree_dir.proofs.laws.ids_name.Goals as goal

pub returns : goal.returns
returns c = ids-name
