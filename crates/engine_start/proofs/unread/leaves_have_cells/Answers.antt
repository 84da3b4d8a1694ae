use Rattle.engine_start.proofs.EntriesBegun.{leaves_have_cells}
use Rattle.engine_start.proofs.unread.leaves_have_cells.Goals as goal

pub returns : goal.returns
returns c = leaves_have_cells
