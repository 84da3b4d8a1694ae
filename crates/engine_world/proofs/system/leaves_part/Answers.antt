use Rattle.engine_world.proofs.Parting.{leaves-part}
use Rattle.engine_world.proofs.system.leaves_part.Goals as goal

pub returns : goal.returns
returns c = leaves-part c.leaves_give_way.ensures c.evictions_stand.ensures
