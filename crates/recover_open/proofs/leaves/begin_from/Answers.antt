use Rattle.std.proofs.Common.{◌∙◌, ap}
use Rattle.std.specs.Prelude.{not}
use Rattle.std.specs.Ordering.{is_lt}
use Rattle.recover_open.proofs.Keys.{first_tells}
use Rattle.recover_open.proofs.leaves.begin_from.Goals as goal

pub returns-in-Some : goal.returns-in-Some
returns-in-Some c =
    first_tells c.args.least.now c.as_bytes.result.now c.args.rows.now c.in-Some.first.now (not c.is_lt.result) c.requires c.in-Some.ensures.value c.as_bytes.ensures (ap not (c.is_lt.ensures ∙ ap is_lt c.order.ensures))
