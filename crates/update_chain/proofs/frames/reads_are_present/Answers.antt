use Rattle.update_chain.proofs.Framing.{reads-are-present}
use Rattle.update_chain.proofs.frames.reads_are_present.Goals as goal

pub returns : goal.returns
returns c = reads-are-present
