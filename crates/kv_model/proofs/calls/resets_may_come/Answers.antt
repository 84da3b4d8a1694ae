use Rattle.kv_model.proofs.Calling.{resets-may}
use Rattle.kv_model.proofs.calls.resets_may_come.Goals as goal

pub returns : goal.returns
returns c = resets-may
