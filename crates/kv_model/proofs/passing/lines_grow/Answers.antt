use Rattle.kv_model.proofs.TwoMoments.{lines-grow}
use Rattle.kv_model.proofs.passing.lines_grow.Goals as goal

pub returns : goal.returns
returns c = lines-grow
