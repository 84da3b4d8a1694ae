use Rattle.kv_model.proofs.ReconciledKeys.{eviction-stands}
use Rattle.kv_model.proofs.reconciling.evictions_stand.Goals as goal

pub returns : goal.returns
returns c = eviction-stands
