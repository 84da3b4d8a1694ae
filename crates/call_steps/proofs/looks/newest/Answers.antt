use Rattle.std.proofs.Common.{◌∙◌}
use Rattle.call_steps.proofs.Newest.{first_is_newest}
use Rattle.call_steps.proofs.looks.newest.Goals as goal

pub returns : goal.returns
returns c = c.newest.ensures ∙ first_is_newest c.args.chain.now
