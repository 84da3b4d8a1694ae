use Rattle.kv_model.proofs.StoreLists.{agreement-refuses}
use Rattle.kv_model.proofs.agreement.agreement_refuses.Goals as goal

pub returns : goal.returns
returns c = agreement-refuses
