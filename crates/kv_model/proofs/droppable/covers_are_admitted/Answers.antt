use Rattle.kv_model.proofs.Covering.{covers-admitted}
use Rattle.kv_model.proofs.droppable.covers_are_admitted.Goals as goal

pub returns : goal.returns
returns c = covers-admitted
