use Rattle.engine_world.proofs.Reaching.{steps-reach}
use Rattle.engine_world.proofs.whole.steps_reach.Goals as goal

pub returns : goal.returns
returns c = steps-reach
