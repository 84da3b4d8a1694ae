use Rattle.kv_model.proofs.Calling.{seeks-may}
use Rattle.kv_model.proofs.calls.seeks_may_come.Goals as goal

pub returns : goal.returns
returns c = seeks-may
