use Rattle.std.proofs.Common.{◌≡◌, ◌∙◌, [], List, ap, length, sym}
use Rattle.std.proofs.lemmas.Bool.{eqb-true}
use Rattle.stored.specs.HistoryTree.{HistoryRecord}
use Rattle.device_read.specs.Merging.{merged}
use Rattle.device_read.specs.Newest.{rows_of}
use Rattle.device_read.proofs.Cells.{merged_none, none_there}
use Rattle.device_read.proofs.opened.OpenedLeaf.rows.Goals as goal

pub returns-then-is_empty : goal.returns-then-is_empty
returns-then-is_empty c =
    let newest : List HistoryRecord = c.self.inside.newest.now in
    let none : newest ≡ [] = none_there newest (eqb-true (length newest) 0 (sym c.is_empty.ensures ∙ c.if-is_empty.true)) in
    c.page-page.ensures.rows
    ∙ sym (merged_none c.self.inside.leaf.page)
    ∙ ap (λ (l : List HistoryRecord). merged c.self.inside.leaf.page (rows_of l)) (sym none)
    ∙ c.self.view_is
