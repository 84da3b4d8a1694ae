use Rattle.kv_model.proofs.ReconciledKeys.{capture-is-held}
use Rattle.kv_model.proofs.reconciling.captures_are_held.Goals as goal

pub returns : goal.returns
returns c = capture-is-held
