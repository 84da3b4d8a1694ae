use Rattle.kv_model.proofs.FinishedKeys.{finish-opens}
use Rattle.kv_model.proofs.openings.finishes_open.Goals as goal

pub returns : goal.returns
returns c = finish-opens
