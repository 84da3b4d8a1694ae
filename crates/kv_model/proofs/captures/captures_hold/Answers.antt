use Rattle.kv_model.proofs.StoreLists.{capture-holds}
use Rattle.kv_model.proofs.captures.captures_hold.Goals as goal

pub returns : goal.returns
returns c = capture-holds
