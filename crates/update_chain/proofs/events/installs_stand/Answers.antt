use Rattle.update_chain.proofs.Installing.{installs-stand}
use Rattle.update_chain.proofs.events.installs_stand.Goals as goal

pub returns : goal.returns
returns c = installs-stand
