use Rattle.kv_model.proofs.TwoMoments.{pins-begin}
use Rattle.kv_model.proofs.passing.pins_begin.Goals as goal

pub returns : goal.returns
returns c = pins-begin
