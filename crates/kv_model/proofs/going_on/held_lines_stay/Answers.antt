use Rattle.kv_model.proofs.ReadingOn.{lines-stay}
use Rattle.kv_model.proofs.going_on.held_lines_stay.Goals as goal

pub returns : goal.returns
returns c = λ m event s t table key v may there others alive own. lines-stay m s t table key v there alive own event may others
