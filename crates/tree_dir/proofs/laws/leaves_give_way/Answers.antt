use Rattle.tree_dir.proofs.GivingWay.{leaves-give-way}
use Rattle.tree_dir.proofs.laws.leaves_give_way.Goals as goal

pub returns : goal.returns
returns c = leaves-give-way
