use Rattle.item.proofs.ReadBack.{reads-back}
use Rattle.item.proofs.escapes.escapes_read_back.Goals as goal

pub returns : goal.returns
returns c = reads-back
