use Rattle.kv_model.proofs.SweptKeys.{adds-stand}
use Rattle.kv_model.proofs.sweeps.adds_stand.Goals as goal

pub returns : goal.returns
returns c = adds-stand
