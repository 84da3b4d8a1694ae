use Rattle.kv_model.proofs.MarkedKeys.{clean-keeps}
use Rattle.kv_model.proofs.marks.clean_keeps.Goals as goal

pub returns : goal.returns
returns c = clean-keeps
