use Rattle.engine_world.proofs.Prepares.{releases-go}
use Rattle.engine_world.proofs.hub.releases_go.Goals as goal

pub returns : goal.returns
returns c = releases-go c.chains_go_on.ensures c.prepares_stand.ensures
