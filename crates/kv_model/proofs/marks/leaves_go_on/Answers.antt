use Rattle.kv_model.proofs.MarkedKeys.{leaves-go-on}
use Rattle.kv_model.proofs.marks.leaves_go_on.Goals as goal

pub returns : goal.returns
returns c = leaves-go-on
