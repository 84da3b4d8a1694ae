use Rattle.snapshot.proofs.Checkpoints.{sees-committed-first}
use Rattle.snapshot.proofs.sights_see_committed.Goals as goal

pub returns : goal.returns
returns c = sees-committed-first
