use Rattle.update_chain.proofs.Releasing.{resolves-stand}
use Rattle.update_chain.proofs.events.resolves_stand.Goals as goal

pub returns : goal.returns
returns c = resolves-stand
