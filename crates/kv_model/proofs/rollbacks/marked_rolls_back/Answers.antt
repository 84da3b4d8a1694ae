use Rattle.kv_model.proofs.RolledKeys.{marked-rolls-back}
use Rattle.kv_model.proofs.rollbacks.marked_rolls_back.Goals as goal

pub returns : goal.returns
returns c = marked-rolls-back
