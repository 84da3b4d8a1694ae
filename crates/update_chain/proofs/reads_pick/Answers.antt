use Rattle.update_chain.proofs.Picking.{reads-pick}
use Rattle.update_chain.proofs.reads_pick.Goals as goal

pub returns : goal.returns
returns c = reads-pick
