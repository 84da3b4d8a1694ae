use Rattle.engine_world.proofs.GoingOut.{leaves-go-out}
use Rattle.engine_world.proofs.system.leaves_go_out.Goals as goal

pub returns : goal.returns
returns c = leaves-go-out
