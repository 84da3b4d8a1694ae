use Rattle.kv_model.proofs.StoreLists.{rollback-keeps}
use Rattle.kv_model.proofs.stores.rollbacks_keep_stores.Goals as goal

pub returns : goal.returns
returns c = rollback-keeps
