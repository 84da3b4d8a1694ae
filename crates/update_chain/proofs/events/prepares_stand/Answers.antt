use Rattle.update_chain.proofs.Releasing.{prepares-stand}
use Rattle.update_chain.proofs.events.prepares_stand.Goals as goal

pub returns : goal.returns
returns c = prepares-stand
