use Rattle.hist_store.proofs.Adding.{adds-add}
use Rattle.hist_store.proofs.laws.adds_add.Goals as goal

pub returns : goal.returns
returns c = adds-add
