use Rattle.kv_model.proofs.TwoMoments.{pins-go-on}
use Rattle.kv_model.proofs.passing.pins_go_on.Goals as goal

pub returns : goal.returns
returns c = pins-go-on
