use Rattle.hist_store.proofs.Sweeping.{first-is-newest}
use Rattle.hist_store.proofs.laws.first_is_newest.Goals as goal

pub returns : goal.returns
returns c = first-is-newest
