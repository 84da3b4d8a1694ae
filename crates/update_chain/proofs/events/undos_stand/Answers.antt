use Rattle.update_chain.proofs.Ending.{undos-stand}
use Rattle.update_chain.proofs.events.undos_stand.Goals as goal

pub returns : goal.returns
returns c = undos-stand
