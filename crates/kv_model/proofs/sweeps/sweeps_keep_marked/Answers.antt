use Rattle.kv_model.proofs.SweptKeys.{sweeps-keep-marked}
use Rattle.kv_model.proofs.sweeps.sweeps_keep_marked.Goals as goal

pub returns : goal.returns
returns c = sweeps-keep-marked
