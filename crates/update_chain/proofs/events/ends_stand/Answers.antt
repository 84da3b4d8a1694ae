use Rattle.update_chain.proofs.Ending.{ends-stand}
use Rattle.update_chain.proofs.events.ends_stand.Goals as goal

pub returns : goal.returns
returns c = ends-stand
