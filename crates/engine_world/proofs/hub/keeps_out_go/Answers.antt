use Rattle.engine_world.proofs.KeepingOut.{keeps-out-go}
use Rattle.engine_world.proofs.hub.keeps_out_go.Goals as goal

pub returns : goal.returns
returns c = keeps-out-go
