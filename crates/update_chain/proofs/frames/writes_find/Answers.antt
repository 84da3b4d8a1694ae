use Rattle.update_chain.proofs.Finding.{writes-find}
use Rattle.update_chain.proofs.frames.writes_find.Goals as goal

pub returns : goal.returns
returns c = writes-find
