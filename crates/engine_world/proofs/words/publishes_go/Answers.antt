use Rattle.engine_world.proofs.WordEvents.{publishes-go}
use Rattle.engine_world.proofs.words.publishes_go.Goals as goal

pub returns : goal.returns
returns c = publishes-go
