use Rattle.std.proofs.Common.{◌∙◌, refl}
use Rattle.evict_step.proofs.kept.Kept.settle_some.Goals as goal

pub loop-init : goal.loop-init
loop-init c = λ leaf. refl

pub loop-preserved : goal.loop-preserved
loop-preserved c = λ leaf. c.settle_leaf.ensures leaf ∙ c.loop.invariant leaf
