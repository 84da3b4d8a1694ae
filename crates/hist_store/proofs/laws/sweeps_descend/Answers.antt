use Rattle.hist_store.proofs.Sweeping.{sweeps-descend}
use Rattle.hist_store.proofs.laws.sweeps_descend.Goals as goal

pub returns : goal.returns
returns c = sweeps-descend
