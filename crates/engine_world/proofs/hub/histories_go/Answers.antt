use Rattle.engine_world.proofs.Histories.{histories-go}
use Rattle.engine_world.proofs.hub.histories_go.Goals as goal

pub returns : goal.returns
returns c = histories-go
