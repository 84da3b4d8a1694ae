use Rattle.kv_model.proofs.Agrees.{agree-rts}
use Rattle.kv_model.proofs.agreement.rollback_keeps_agreement.Goals as goal

pub returns : goal.returns
returns c = agree-rts
