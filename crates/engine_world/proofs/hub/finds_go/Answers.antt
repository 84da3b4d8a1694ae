use Rattle.engine_world.proofs.Finds.{finds-go}
use Rattle.engine_world.proofs.hub.finds_go.Goals as goal

pub returns : goal.returns
returns c = finds-go c.chains_go_on.ensures
