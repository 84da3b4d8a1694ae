use Rattle.kv_model.proofs.EveryEvent.{valid-after}
use Rattle.kv_model.proofs.machine.events_keep_valid.Goals as goal

pub returns : goal.returns
returns c = valid-after
