use Rattle.kv_model.proofs.SweptKeys.{sweeps-in-hand}
use Rattle.kv_model.proofs.sweeps.sweeps_in_hand.Goals as goal

pub returns : goal.returns
returns c = sweeps-in-hand
