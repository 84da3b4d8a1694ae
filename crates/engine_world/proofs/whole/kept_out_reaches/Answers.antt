use Rattle.engine_world.proofs.Reaching.{kept-out-reaches}
use Rattle.engine_world.proofs.whole.kept_out_reaches.Goals as goal

pub returns : goal.returns
returns c = kept-out-reaches
