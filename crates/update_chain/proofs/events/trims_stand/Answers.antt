use Rattle.update_chain.proofs.Trimming.{trims-stand}
use Rattle.update_chain.proofs.events.trims_stand.Goals as goal

pub returns : goal.returns
returns c = trims-stand
