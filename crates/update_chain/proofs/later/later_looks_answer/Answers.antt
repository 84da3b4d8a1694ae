use Rattle.update_chain.proofs.LaterLooks.{later-looks-answer}
use Rattle.update_chain.proofs.later.later_looks_answer.Goals as goal

pub returns : goal.returns
returns c = later-looks-answer
