use Rattle.kv_model.proofs.Starts.{snapshots-stand}
use Rattle.kv_model.proofs.passing.snapshots_stand.Goals as goal

pub returns : goal.returns
returns c = snapshots-stand
