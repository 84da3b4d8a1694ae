use Rattle.hist_store.proofs.Adding.{adds-descend}
use Rattle.hist_store.proofs.laws.adds_descend.Goals as goal

pub returns : goal.returns
returns c = adds-descend
