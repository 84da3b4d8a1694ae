use Rattle.kv_model.proofs.CapturedKeys.{leaf-is-held}
use Rattle.kv_model.proofs.reconciling.leaves_are_held.Goals as goal

pub returns : goal.returns
returns c = leaf-is-held
