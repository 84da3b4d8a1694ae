use Rattle.tree_dir.proofs.Parting.{has-under}
use Rattle.tree_dir.proofs.laws.has_is_under.Goals as goal

pub returns : goal.returns
returns c = has-under
