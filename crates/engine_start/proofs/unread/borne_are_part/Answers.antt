use Rattle.engine_start.proofs.LedRows.{borne_part}
use Rattle.engine_start.proofs.unread.borne_are_part.Goals as goal

pub returns : goal.returns
returns c = borne_part
