use Rattle.hist_store.proofs.Sweeping.{sweeps-sweep}
use Rattle.hist_store.proofs.laws.sweeps_sweep.Goals as goal

pub returns : goal.returns
returns c = sweeps-sweep
