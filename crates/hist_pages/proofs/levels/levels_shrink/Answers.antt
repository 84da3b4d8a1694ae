use Rattle.hist_pages.proofs.CutLevels.{shrink}
use Rattle.hist_pages.proofs.levels.levels_shrink.Goals as goal

pub returns : goal.returns
returns c = shrink
