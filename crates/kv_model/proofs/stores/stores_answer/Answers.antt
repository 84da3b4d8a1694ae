use Rattle.kv_model.proofs.StoreLists.{stores-answer}
use Rattle.kv_model.proofs.stores.stores_answer.Goals as goal

pub returns : goal.returns
returns c = stores-answer
