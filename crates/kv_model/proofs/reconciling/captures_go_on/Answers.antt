use Rattle.kv_model.proofs.CapturedKeys.{captures-go-on}
use Rattle.kv_model.proofs.reconciling.captures_go_on.Goals as goal

pub returns : goal.returns
returns c = captures-go-on
