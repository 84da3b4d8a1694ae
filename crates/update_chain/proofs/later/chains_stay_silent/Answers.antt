use Rattle.update_chain.proofs.Silence.{chains-stay-silent}
use Rattle.update_chain.proofs.later.chains_stay_silent.Goals as goal

pub returns : goal.returns
returns c = chains-stay-silent
