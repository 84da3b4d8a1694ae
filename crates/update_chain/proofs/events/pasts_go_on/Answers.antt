use Rattle.update_chain.proofs.Pasts.{pasts-go-on}
use Rattle.update_chain.proofs.events.pasts_go_on.Goals as goal

pub returns : goal.returns
returns c = pasts-go-on
