use Rattle.kv_model.proofs.ReconciledKeys.{frames-alike}
use Rattle.kv_model.proofs.reconciling.frames_are_alike.Goals as goal

pub returns : goal.returns
returns c = frames-alike
