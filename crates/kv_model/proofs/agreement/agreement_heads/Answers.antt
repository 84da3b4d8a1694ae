use Rattle.kv_model.proofs.StoreLists.{agreement-heads}
use Rattle.kv_model.proofs.agreement.agreement_heads.Goals as goal

pub returns : goal.returns
returns c = agreement-heads
