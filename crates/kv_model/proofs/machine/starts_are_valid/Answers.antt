use Rattle.kv_model.proofs.Opening.{start-valid}
use Rattle.kv_model.proofs.machine.starts_are_valid.Goals as goal

pub returns : goal.returns
returns c = start-valid
