use Rattle.tree_open.proofs.Descent.{tree_read}
use Rattle.tree_open.proofs.law.a_tree_is_read.Goals as goal

pub returns : goal.returns
returns c = tree_read
