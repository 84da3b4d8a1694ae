use Rattle.kv_model.proofs.Closes.{close-ends}
use Rattle.kv_model.proofs.machine.closes_end_transactions.Goals as goal

pub returns : goal.returns
returns c = close-ends
