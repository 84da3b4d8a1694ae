use Rattle.kv_model.proofs.StoreLists.{agreement-orders}
use Rattle.kv_model.proofs.agreement.agreement_orders.Goals as goal

pub returns : goal.returns
returns c = agreement-orders
