use Rattle.std.proofs.Common.{◌∙◌, ◌-◌, List, None, length, sym, ap, subst, arith}
use Rattle.std.proofs.lemmas.List.{length-map}
use Rattle.std.specs.Ordering.{is_lt}
use Rattle.row_page.specs.Rows.{Row, Ascends}
use Rattle.row_page.specs.Places.{row_from}
use Rattle.row_page.proofs.Ascending.{all_below}
use Rattle.row_page.proofs.leaf.Leaf.ends_below.Goals as goal

pub returns : goal.returns
returns c below =
    let rows = sym (ap length c.self.view_is) ∙ length-map c.self.inside.places.items (row_from _) in
    all_below c.args.self.now c.args.key.now c.key.result.now (c.len-len.result - 1) (subst (λ (l : List Row). Ascends None l) c.self.view_is c.self.invariant.ascend) c.key.ensures (omega (arith, rows))
    (ap is_lt (sym c.order.ensures) ∙ sym c.is_lt.ensures ∙ below)
