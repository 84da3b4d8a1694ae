use Rattle.kv_model.proofs.TrimmedKeys.{trims-lie-under}
use Rattle.kv_model.proofs.sweeps.trims_lie_under.Goals as goal

pub returns : goal.returns
returns c = trims-lie-under
