use Rattle.kv_model.proofs.SweptKeys.{adds-hold}
use Rattle.kv_model.proofs.sweeps.adds_hold.Goals as goal

pub returns : goal.returns
returns c = adds-hold
