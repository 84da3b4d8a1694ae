use Rattle.kv_model.proofs.StoreLists.{capture-keeps}
use Rattle.kv_model.proofs.stores.captures_keep_stores.Goals as goal

pub returns : goal.returns
returns c = capture-keeps
