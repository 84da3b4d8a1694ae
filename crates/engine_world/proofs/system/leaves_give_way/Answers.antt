use Rattle.engine_world.proofs.GivingWay.{leaves-give-way}
use Rattle.engine_world.proofs.system.leaves_give_way.Goals as goal

pub returns : goal.returns
returns c = leaves-give-way c.leaves_give_way.ensures
