use Rattle.kv_model.proofs.MarkedKeys.{marks-go-on}
use Rattle.kv_model.proofs.marks.marks_go_on.Goals as goal

pub returns : goal.returns
returns c = marks-go-on
