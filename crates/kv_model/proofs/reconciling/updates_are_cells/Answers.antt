use Rattle.kv_model.proofs.CellUpdates.{updates-are-cells}
use Rattle.kv_model.proofs.reconciling.updates_are_cells.Goals as goal

pub returns : goal.returns
returns c = updates-are-cells
