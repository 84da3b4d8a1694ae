use Rattle.engine_world.proofs.Placing.{resets-go}
use Rattle.engine_world.proofs.words.resets_go.Goals as goal

pub returns : goal.returns
returns c = resets-go c.chains_go_on.ensures
