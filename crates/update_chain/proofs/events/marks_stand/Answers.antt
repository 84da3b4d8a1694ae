use Rattle.update_chain.proofs.Installing.{marks-stand}
use Rattle.update_chain.proofs.events.marks_stand.Goals as goal

pub returns : goal.returns
returns c = marks-stand
