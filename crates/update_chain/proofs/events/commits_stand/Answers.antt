use Rattle.update_chain.proofs.Releasing.{commits-stand}
use Rattle.update_chain.proofs.events.commits_stand.Goals as goal

pub returns : goal.returns
returns c = commits-stand
