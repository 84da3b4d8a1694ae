use Rattle.std.proofs.Common.{◌∙◌, ◌-◌, ap}
use Rattle.std.specs.Ordering.{is_lt}
use Rattle.recover_open.proofs.Checks.{last_key_tells}
use Rattle.leaf_load.proofs.bounds.end_below.Goals as goal

pub returns : goal.returns
returns c = last_key_tells c.args.next.now c.key.result.now c.args.leaf.now _ c.is_lt.result c.requires c.key.ensures (ap (λ n. n - 1) c.len.ensures) (c.is_lt.ensures ∙ ap is_lt c.order.ensures)
