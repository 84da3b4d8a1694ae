use Rattle.kv_model.proofs.MarkedKeys.{marked-loads}
use Rattle.kv_model.proofs.marks.marked_loads.Goals as goal

pub returns : goal.returns
returns c = marked-loads
