use Rattle.std.proofs.Common.{◌∙◌}
use Rattle.evict_step.proofs.kept.Kept.take_in.Goals as goal

pub returns : goal.returns
returns c = λ id. c.settle.ensures id ∙ c.put_fresh.ensures id
