use Rattle.kv_model.proofs.CapturedKeys.{prefixes-go-on}
use Rattle.kv_model.proofs.reconciling.prefixes_go_on.Goals as goal

pub returns : goal.returns
returns c = prefixes-go-on
