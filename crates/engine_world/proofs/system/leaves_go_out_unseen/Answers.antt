use Rattle.engine_world.proofs.GoingOut.{leaves-go-out-unseen}
use Rattle.engine_world.proofs.system.leaves_go_out_unseen.Goals as goal

pub returns : goal.returns
returns c = leaves-go-out-unseen
