use Rattle.ckpt_step.proofs.NewestTrees.{checkpoints_have_newest}
use Rattle.ckpt_step.proofs.laws.checkpoints_have_newest.Goals as goal

pub returns : goal.returns
returns c = checkpoints_have_newest
