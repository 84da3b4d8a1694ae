use Rattle.std.proofs.Common.{sym, ◌∙◌}
use Rattle.recover_open.proofs.record.is_bare.Goals as goal

pub returns : goal.returns
returns c = (λ is. sym c.history_of.ensures ∙ c.is_no_root.ensures.yes is, λ bare. c.is_no_root.ensures.no (c.history_of.ensures ∙ bare))
