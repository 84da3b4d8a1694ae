use Rattle.std.proofs.Common.{◌∙◌, IsTrue, sym}
use Rattle.row_page.specs.Rows.{Row}
use Rattle.row_page.specs.Views.{row_seen}
use Rattle.leaf_rows.specs.Contents.{is_seen_row}
use Rattle.leaf_load.proofs.Seen.{all_next}
use Rattle.leaf_load.proofs.kept.each_is_seen.Goals as goal

pub loop-i-preserved : goal.loop-i-preserved
loop-i-preserved c =
    all_next (λ (r : Row). IsTrue (is_seen_row c.args.marks.now c.args.ids.now r)) c.args.page.now c.loop-i.i (row_seen c.cell-cell.result) c.loop-i.invariant c.cell-cell.ensures (sym c.is_seen.ensures ∙ c.if-not-is_seen.false)
