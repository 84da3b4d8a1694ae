use Rattle.update_chain.proofs.RollingBack.{rollbacks-bring-back}
use Rattle.update_chain.proofs.frames.rollbacks_bring_back.Goals as goal

pub returns : goal.returns
returns c = rollbacks-bring-back
