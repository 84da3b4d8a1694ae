use Rattle.tree_dir.proofs.Parting.{prev-turns}
use Rattle.tree_dir.proofs.laws.prev_turns.Goals as goal

pub returns : goal.returns
returns c = prev-turns
