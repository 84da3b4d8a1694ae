use Rattle.snapshot.proofs.Sighting.{sees-first}
use Rattle.snapshot.proofs.sights_see_first.Goals as goal

pub returns : goal.returns
returns c = sees-first
