use Rattle.engine_world.proofs.Coming.{leaves-come}
use Rattle.engine_world.proofs.system.leaves_come.Goals as goal

pub returns : goal.returns
returns c = leaves-come
