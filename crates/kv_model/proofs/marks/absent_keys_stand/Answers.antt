use Rattle.kv_model.proofs.FinishedKeys.{absent-stands}
use Rattle.kv_model.proofs.marks.absent_keys_stand.Goals as goal

pub returns : goal.returns
returns c = absent-stands
