use Rattle.engine_world.proofs.Placing.{clears-go}
use Rattle.engine_world.proofs.words.clears_go.Goals as goal

pub returns : goal.returns
returns c = clears-go c.chains_go_on.ensures
