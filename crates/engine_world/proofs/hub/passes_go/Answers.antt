use Rattle.engine_world.proofs.Passing.{passes-go}
use Rattle.engine_world.proofs.hub.passes_go.Goals as goal

pub returns : goal.returns
returns c = passes-go
