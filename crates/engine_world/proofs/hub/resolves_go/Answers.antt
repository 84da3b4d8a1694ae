use Rattle.engine_world.proofs.Rollbacks.{resolves-go}
use Rattle.engine_world.proofs.hub.resolves_go.Goals as goal

pub returns : goal.returns
returns c = resolves-go c.chains_go_on.ensures
