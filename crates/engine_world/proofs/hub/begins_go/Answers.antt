use Rattle.engine_world.proofs.Begins.{begins-go}
use Rattle.engine_world.proofs.hub.begins_go.Goals as goal

pub returns : goal.returns
returns c = begins-go c.chains_go_on.ensures
