use Rattle.tree_dir.proofs.Cutting.{shrink}
use Rattle.tree_dir.proofs.levels.levels_shrink.Goals as goal

pub returns : goal.returns
returns c = shrink
