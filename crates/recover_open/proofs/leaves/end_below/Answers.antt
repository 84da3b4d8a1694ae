use Rattle.std.proofs.Common.{◌∙◌, ap}
use Rattle.std.specs.Ordering.{is_lt}
use Rattle.recover_open.proofs.Keys.{last_tells}
use Rattle.recover_open.proofs.leaves.end_below.Goals as goal

pub returns-in-Some : goal.returns-in-Some
returns-in-Some c =
    last_tells c.args.next.now c.as_bytes.result.now c.args.rows.now c.in-Some.end.now c.is_lt.result c.requires c.in-Some.ensures.value c.as_bytes.ensures (c.is_lt.ensures ∙ ap is_lt c.order.ensures)
