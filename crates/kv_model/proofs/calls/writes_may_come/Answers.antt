use Rattle.kv_model.proofs.Calling.{writes-may}
use Rattle.kv_model.proofs.calls.writes_may_come.Goals as goal

pub returns : goal.returns
returns c = writes-may
