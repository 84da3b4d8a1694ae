use Rattle.hist_store.proofs.ByKey.{adds-change}
use Rattle.hist_store.proofs.laws.adds_change.Goals as goal

pub returns : goal.returns
returns c = adds-change
