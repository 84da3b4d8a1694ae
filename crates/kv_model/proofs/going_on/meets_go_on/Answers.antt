use Rattle.kv_model.proofs.Meetings.{meets-go-on}
use Rattle.kv_model.proofs.going_on.meets_go_on.Goals as goal

pub returns : goal.returns
returns c = meets-go-on
