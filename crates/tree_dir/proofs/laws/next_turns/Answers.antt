use Rattle.tree_dir.proofs.Parting.{next-turns}
use Rattle.tree_dir.proofs.laws.next_turns.Goals as goal

pub returns : goal.returns
returns c = next-turns
