use Rattle.engine_world.proofs.Filling.{fills-go}
use Rattle.engine_world.proofs.hub.fills_go.Goals as goal

pub returns : goal.returns
returns c = fills-go
