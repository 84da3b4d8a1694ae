use Rattle.kv_model.proofs.ReconciledKeys.{capture-stands}
use Rattle.kv_model.proofs.reconciling.captures_stand.Goals as goal

pub returns : goal.returns
returns c = capture-stands
