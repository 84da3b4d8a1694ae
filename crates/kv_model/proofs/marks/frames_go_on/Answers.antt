use Rattle.kv_model.proofs.MarkedKeys.{frames-go-on}
use Rattle.kv_model.proofs.marks.frames_go_on.Goals as goal

pub returns : goal.returns
returns c = frames-go-on
