use Rattle.std.proofs.Common.{◌∙◌, ap}
use Rattle.evict_step.specs.Kept.{Lists, list_of}
use Rattle.evict_step.proofs.kept.Kept.settle.Goals as goal

pub returns : goal.returns
returns c = λ leaf. ap (λ (l : Lists). list_of l leaf) c.free_room.ensures ∙ c.settle_some.ensures leaf
