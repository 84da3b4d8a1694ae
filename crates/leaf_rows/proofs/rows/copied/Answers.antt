use Rattle.std.proofs.Common.{◌∙◌, ◌++◌, ◌∷◌, [], List, take, sym, ap}
use Rattle.row_page.specs.Rows.{Row}
use Rattle.row_page.specs.Views.{row_seen}
use Rattle.row_page.proofs.Steps.{take_next}
use Rattle.leaf_rows.proofs.rows.copied.Goals as goal

pub loop-i-preserved : goal.loop-i-preserved
loop-i-preserved c =
    c.in_ok-push.ensures
    ∙ ap (λ (l : List Row). l ++ c.in_ok-row.row ∷ []) c.loop-i.invariant
    ∙ ap (λ (r : Row). take c.loop-i.i c.args.leaf.now ++ r ∷ []) c.in_ok-row.ensures
    ∙ sym (take_next c.loop-i.i c.args.leaf.now (row_seen c.cell.result) c.cell.ensures)
