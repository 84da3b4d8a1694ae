use Rattle.kv_model.proofs.RowRanges.{absences-go-on}
use Rattle.kv_model.proofs.rows.absences_go_on.Goals as goal

pub returns : goal.returns
returns c = absences-go-on
