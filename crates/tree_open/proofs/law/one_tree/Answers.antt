use Rattle.tree_open.proofs.Descent.{one_inner}
use Rattle.tree_open.proofs.law.one_tree.Goals as goal

pub returns : goal.returns
returns c = one_inner
