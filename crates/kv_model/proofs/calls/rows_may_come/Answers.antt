use Rattle.kv_model.proofs.Calling.{rows-may}
use Rattle.kv_model.proofs.calls.rows_may_come.Goals as goal

pub returns : goal.returns
returns c = rows-may
