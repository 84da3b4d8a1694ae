use Rattle.std.proofs.Common.{◌∙◌, ap}
use Rattle.std.specs.Ordering.{is_lt}
use Rattle.stored.specs.TableTree.{Entry}
use Rattle.tree_open.proofs.OnePage.{end_tells}
use Rattle.tree_open.proofs.page.ends_below.Goals as goal

pub returns-in-Some : goal.returns-in-Some
returns-in-Some c =
    end_tells c.args.next.now c.as_bytes.result.now c.args.page.now c.in-Some.end.now c.is_lt.result c.requires c.in-Some.ensures.value
    (c.as_bytes.ensures ∙ ap (λ (e : Entry). e.key) c.end.view_is) (c.is_lt.ensures ∙ ap is_lt c.order.ensures)
