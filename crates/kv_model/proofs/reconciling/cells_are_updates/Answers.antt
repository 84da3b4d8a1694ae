use Rattle.kv_model.proofs.CellUpdates.{cells-are-updates}
use Rattle.kv_model.proofs.reconciling.cells_are_updates.Goals as goal

pub returns : goal.returns
returns c = cells-are-updates
