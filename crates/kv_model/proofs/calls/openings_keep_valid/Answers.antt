use Rattle.kv_model.proofs.Calling.{openings-valid}
use Rattle.kv_model.proofs.calls.openings_keep_valid.Goals as goal

pub returns : goal.returns
returns c = openings-valid
