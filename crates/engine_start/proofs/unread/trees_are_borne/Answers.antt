use Rattle.engine_start.proofs.LedRows.{tree_borne}
use Rattle.engine_start.proofs.unread.trees_are_borne.Goals as goal

pub returns : goal.returns
returns c = tree_borne
