use Rattle.kv_model.proofs.StoreLists.{eviction-keeps}
use Rattle.kv_model.proofs.stores.evictions_keep_stores.Goals as goal

pub returns : goal.returns
returns c = eviction-keeps
