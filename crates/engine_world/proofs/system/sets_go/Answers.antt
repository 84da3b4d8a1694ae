use Rattle.engine_world.proofs.Sets.{sets-go}
use Rattle.engine_world.proofs.system.sets_go.Goals as goal

pub returns : goal.returns
returns c = sets-go c.chains_go_on.ensures
