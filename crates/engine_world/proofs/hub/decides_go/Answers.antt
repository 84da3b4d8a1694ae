use Rattle.engine_world.proofs.Commits.{decides-go}
use Rattle.engine_world.proofs.hub.decides_go.Goals as goal

pub returns : goal.returns
returns c = decides-go c.chains_go_on.ensures c.commits_stand.ensures c.resolves_stand.ensures
