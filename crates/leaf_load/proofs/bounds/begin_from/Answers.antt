use Rattle.std.proofs.Common.{◌∙◌, ap}
use Rattle.std.specs.Prelude.{not}
use Rattle.std.specs.Ordering.{is_lt}
use Rattle.recover_open.proofs.Checks.{first_key_tells}
use Rattle.leaf_load.proofs.bounds.begin_from.Goals as goal

pub returns : goal.returns
returns c = first_key_tells c.args.low.now c.key.result.now c.args.leaf.now (not c.is_lt.result) c.requires c.key.ensures (ap not (c.is_lt.ensures ∙ ap is_lt c.order.ensures))
