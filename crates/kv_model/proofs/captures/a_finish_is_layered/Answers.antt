use Rattle.kv_model.proofs.StoreLists.{finish-layered}
use Rattle.kv_model.proofs.captures.a_finish_is_layered.Goals as goal

pub returns : goal.returns
returns c = finish-layered
