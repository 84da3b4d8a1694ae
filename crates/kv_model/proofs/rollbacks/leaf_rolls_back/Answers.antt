use Rattle.kv_model.proofs.RolledKeys.{leaf-rolls-back}
use Rattle.kv_model.proofs.rollbacks.leaf_rolls_back.Goals as goal

pub returns : goal.returns
returns c = leaf-rolls-back
