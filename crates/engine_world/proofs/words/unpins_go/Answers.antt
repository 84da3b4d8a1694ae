use Rattle.engine_world.proofs.WordEvents.{unpins-go}
use Rattle.engine_world.proofs.words.unpins_go.Goals as goal

pub returns : goal.returns
returns c = unpins-go
