use Rattle.kv_model.proofs.RolledKeys.{frame-rolls-back}
use Rattle.kv_model.proofs.rollbacks.frame_rolls_back.Goals as goal

pub returns : goal.returns
returns c = frame-rolls-back
