use Rattle.update_chain.proofs.GoingOn.{chains-go-on}
use Rattle.update_chain.proofs.events.chains_go_on.Goals as goal

pub returns : goal.returns
returns c = chains-go-on
