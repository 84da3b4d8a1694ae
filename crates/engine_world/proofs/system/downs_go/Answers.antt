use Rattle.engine_world.proofs.Downs.{downs-go}
use Rattle.engine_world.proofs.system.downs_go.Goals as goal

pub returns : goal.returns
returns c = downs-go c.chains_go_on.ensures
