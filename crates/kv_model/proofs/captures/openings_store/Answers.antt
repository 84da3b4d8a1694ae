use Rattle.kv_model.proofs.StoreLists.{opening-stores}
use Rattle.kv_model.proofs.captures.openings_store.Goals as goal

pub returns : goal.returns
returns c = opening-stores
