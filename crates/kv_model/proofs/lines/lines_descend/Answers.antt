use Rattle.kv_model.proofs.Ordering.{line-descends}
use Rattle.kv_model.proofs.lines.lines_descend.Goals as goal

pub returns : goal.returns
returns c = line-descends
