use Rattle.kv_model.proofs.SweptKeys.{sweeps-keep-captured}
use Rattle.kv_model.proofs.sweeps.sweeps_keep_captured.Goals as goal

pub returns : goal.returns
returns c = sweeps-keep-captured
