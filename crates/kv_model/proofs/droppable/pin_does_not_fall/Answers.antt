use Rattle.kv_model.proofs.Pins.{pin-after}
use Rattle.kv_model.proofs.droppable.pin_does_not_fall.Goals as goal

pub returns : goal.returns
returns c = pin-after
