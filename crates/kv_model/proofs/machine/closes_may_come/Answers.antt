use Rattle.kv_model.proofs.Closes.{may-close}
use Rattle.kv_model.proofs.machine.closes_may_come.Goals as goal

pub returns : goal.returns
returns c = may-close
