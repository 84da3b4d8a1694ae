use Rattle.engine_world.proofs.Evicting.{leaves-are-evicted-unseen}
use Rattle.engine_world.proofs.system.leaves_are_evicted_unseen.Goals as goal

pub returns : goal.returns
returns c = leaves-are-evicted-unseen c.evictions_stand.ensures
