use Rattle.hist_store.proofs.Sweeping.{sweeps-change}
use Rattle.hist_store.proofs.laws.sweeps_change.Goals as goal

pub returns : goal.returns
returns c = sweeps-change
