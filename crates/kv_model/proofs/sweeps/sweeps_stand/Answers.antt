use Rattle.kv_model.proofs.SweptKeys.{sweeps-stand}
use Rattle.kv_model.proofs.sweeps.sweeps_stand.Goals as goal

pub returns : goal.returns
returns c = sweeps-stand
