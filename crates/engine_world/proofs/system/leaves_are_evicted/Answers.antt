use Rattle.engine_world.proofs.Evicting.{leaves-are-evicted}
use Rattle.engine_world.proofs.system.leaves_are_evicted.Goals as goal

pub returns : goal.returns
returns c = leaves-are-evicted c.evictions_stand.ensures
