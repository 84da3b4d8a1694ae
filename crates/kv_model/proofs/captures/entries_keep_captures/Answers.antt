use Rattle.kv_model.proofs.StoreLists.{entries-keep}
use Rattle.kv_model.proofs.captures.entries_keep_captures.Goals as goal

pub returns : goal.returns
returns c = entries-keep
