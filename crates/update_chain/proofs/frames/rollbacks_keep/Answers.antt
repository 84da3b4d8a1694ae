use Rattle.update_chain.proofs.RollingBack.{rollbacks-keep}
use Rattle.update_chain.proofs.frames.rollbacks_keep.Goals as goal

pub returns : goal.returns
returns c = rollbacks-keep
