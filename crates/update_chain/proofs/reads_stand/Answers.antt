use Rattle.update_chain.proofs.Reading.{reads-stand}
use Rattle.update_chain.proofs.reads_stand.Goals as goal

pub returns : goal.returns
returns c = reads-stand
