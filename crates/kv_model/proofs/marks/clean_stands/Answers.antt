use Rattle.kv_model.proofs.MarkedKeys.{clean-stands}
use Rattle.kv_model.proofs.marks.clean_stands.Goals as goal

pub returns : goal.returns
returns c = clean-stands
