use Rattle.kv_model.proofs.StoreLists.{finish-holds}
use Rattle.kv_model.proofs.captures.a_finish_agrees.Goals as goal

pub returns : goal.returns
returns c = finish-holds
