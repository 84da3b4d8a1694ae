use Rattle.kv_model.proofs.StoreLists.{histories-keep}
use Rattle.kv_model.proofs.captures.histories_keep_captures.Goals as goal

pub returns : goal.returns
returns c = histories-keep
