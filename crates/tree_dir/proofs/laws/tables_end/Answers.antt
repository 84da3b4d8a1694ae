use Rattle.tree_dir.proofs.Parting.{tables-end}
use Rattle.tree_dir.proofs.laws.tables_end.Goals as goal

pub returns : goal.returns
returns c = tables-end
