use Rattle.kv_model.proofs.FrameKeys.{keys-go-on}
use Rattle.kv_model.proofs.marks.keys_go_on.Goals as goal

pub returns : goal.returns
returns c = keys-go-on
