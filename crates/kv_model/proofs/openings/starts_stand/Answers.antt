use Rattle.kv_model.proofs.ContentKeys.{starts-stand}
use Rattle.kv_model.proofs.openings.starts_stand.Goals as goal

pub returns : goal.returns
returns c = starts-stand
