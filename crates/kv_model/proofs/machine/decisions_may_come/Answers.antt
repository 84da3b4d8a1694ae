use Rattle.kv_model.proofs.Deciding.{may-decide}
use Rattle.kv_model.proofs.machine.decisions_may_come.Goals as goal

pub returns : goal.returns
returns c = may-decide
