use Rattle.kv_model.proofs.Droppables.{never-picked}
use Rattle.kv_model.proofs.droppable.droppables_are_never_picked.Goals as goal

pub returns : goal.returns
returns c = never-picked
