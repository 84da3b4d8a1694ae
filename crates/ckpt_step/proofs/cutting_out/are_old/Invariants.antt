use Rattle.std.proofs.Common.{take}
use Rattle.ckpt_step.specs.CutOuts.{AreOldAt}
use Rattle.ckpt_step.proofs.cutting_out.are_old.Given as goal

abbrev pub invariant-loop-image : goal.invariant-loop-image
invariant-loop-image l = AreOldAt l.oldest (take l.image-index l.images)
