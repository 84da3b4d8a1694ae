use Rattle.engine_world.proofs.Ends.{ends-go}
use Rattle.engine_world.proofs.hub.ends_go.Goals as goal

pub returns : goal.returns
returns c = ends-go c.chains_go_on.ensures c.ends_stand.ensures
