use Rattle.kv_model.proofs.StoreLists.{cleaning-stores}
use Rattle.kv_model.proofs.captures.cleanings_store.Goals as goal

pub returns : goal.returns
returns c = cleaning-stores
