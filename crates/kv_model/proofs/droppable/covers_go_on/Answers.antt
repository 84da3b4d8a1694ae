use Rattle.kv_model.proofs.Pins.{covers-after}
use Rattle.kv_model.proofs.droppable.covers_go_on.Goals as goal

pub returns : goal.returns
returns c = covers-after
