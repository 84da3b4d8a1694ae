use Rattle.engine_world.proofs.Creates.{creates-go}
use Rattle.engine_world.proofs.system.creates_go.Goals as goal

pub returns : goal.returns
returns c = creates-go c.chains_go_on.ensures
