use Rattle.hist_store.proofs.ByKey.{adds-keep}
use Rattle.hist_store.proofs.laws.adds_keep.Goals as goal

pub returns : goal.returns
returns c = adds-keep
