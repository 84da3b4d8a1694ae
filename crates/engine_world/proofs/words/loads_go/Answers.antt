use Rattle.engine_world.proofs.WordEvents.{loads-go}
use Rattle.engine_world.proofs.words.loads_go.Goals as goal

pub returns : goal.returns
returns c = loads-go
