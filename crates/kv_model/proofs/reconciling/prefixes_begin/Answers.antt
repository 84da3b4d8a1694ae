use Rattle.kv_model.proofs.CapturedKeys.{prefixes-begin}
use Rattle.kv_model.proofs.reconciling.prefixes_begin.Goals as goal

pub returns : goal.returns
returns c = prefixes-begin
