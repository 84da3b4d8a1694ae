use Rattle.update_chain.proofs.Framing.{orders-stand}
use Rattle.update_chain.proofs.frames.orders_stand.Goals as goal

pub returns : goal.returns
returns c = orders-stand
