use Rattle.kv_model.proofs.RowRanges.{rows-compose}
use Rattle.kv_model.proofs.rows.rows_compose.Goals as goal

pub returns : goal.returns
returns c = rows-compose
