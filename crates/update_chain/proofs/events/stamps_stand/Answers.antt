use Rattle.update_chain.proofs.Stamping.{stamps-stand}
use Rattle.update_chain.proofs.events.stamps_stand.Goals as goal

pub returns : goal.returns
returns c = stamps-stand
