use Rattle.engine_world.proofs.Starts.{starts-go}
use Rattle.engine_world.proofs.words.starts_go.Goals as goal

pub returns : goal.returns
returns c = starts-go
