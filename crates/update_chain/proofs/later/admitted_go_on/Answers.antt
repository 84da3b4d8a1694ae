use Rattle.update_chain.proofs.Silence.{admitted-go-on}
use Rattle.update_chain.proofs.later.admitted_go_on.Goals as goal

pub returns : goal.returns
returns c = admitted-go-on
