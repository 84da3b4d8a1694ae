use Rattle.engine_world.proofs.Opens.{opens-go}
use Rattle.engine_world.proofs.system.opens_go.Goals as goal

pub returns : goal.returns
returns c = opens-go c.chains_go_on.ensures
