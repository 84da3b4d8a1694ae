use Rattle.hist_open.proofs.TreeLeaves.{one_history}
use Rattle.hist_open.proofs.law.one_history.Goals as goal

pub returns : goal.returns
returns c = one_history
