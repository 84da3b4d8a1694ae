use Rattle.update_chain.proofs.Framing.{views-admit}
use Rattle.update_chain.proofs.frames.views_admit.Goals as goal

pub returns : goal.returns
returns c = views-admit
