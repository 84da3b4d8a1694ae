use Rattle.kv_model.proofs.Calling.{calls-valid}
use Rattle.kv_model.proofs.calls.calls_keep_valid.Goals as goal

pub returns : goal.returns
returns c = calls-valid
