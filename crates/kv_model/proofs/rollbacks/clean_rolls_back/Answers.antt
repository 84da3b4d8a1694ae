use Rattle.kv_model.proofs.RolledKeys.{clean-rolls-back}
use Rattle.kv_model.proofs.rollbacks.clean_rolls_back.Goals as goal

pub returns : goal.returns
returns c = clean-rolls-back
