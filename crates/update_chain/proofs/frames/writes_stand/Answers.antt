use Rattle.update_chain.proofs.Writes.{writes-stand}
use Rattle.update_chain.proofs.frames.writes_stand.Goals as goal

pub returns : goal.returns
returns c = writes-stand
