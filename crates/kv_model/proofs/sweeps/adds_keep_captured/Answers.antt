use Rattle.kv_model.proofs.SweptKeys.{adds-keep-captured}
use Rattle.kv_model.proofs.sweeps.adds_keep_captured.Goals as goal

pub returns : goal.returns
returns c = adds-keep-captured
