use Rattle.kv_model.proofs.TrimmedKeys.{trims-stand}
use Rattle.kv_model.proofs.sweeps.trims_stand.Goals as goal

pub returns : goal.returns
returns c = trims-stand
