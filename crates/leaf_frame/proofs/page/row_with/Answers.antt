use Rattle.std.proofs.Common.{◌≡◌, List, Option, None, Some, Bor, sym, subst}
use Rattle.row_page.specs.Rows.{Row, Ascends}
use Rattle.row_page.specs.Views.{row_seen}
use Rattle.reconcile.specs.Shows.{shown_at}
use Rattle.reconcile.specs.Held.{page_rows}
use Rattle.leaf_frame.specs.Looks.{version_seen}
use Rattle.leaf_frame.proofs.Pages.{shows_at, shows_none}
use Rattle.leaf_frame.proofs.page.row_with.Goals as goal

pub returns-in-Ok : goal.returns-in-Ok
returns-in-Ok c =
    let up = subst (λ (o : Option (Bor (List Row))). Ascends None (page_rows o)) c.in_ok-leaf.was c.requires.ascend in
    subst (λ (o : Option (Bor (List Row))). Some (version_seen c.cell.result) ≡ shown_at c.args.key.now (page_rows o)) (sym c.in_ok-leaf.was)
    (shows_at c.in_ok-leaf.leaf.now c.args.key.now c.in-Ok.i (row_seen c.cell.result) up c.in-Ok.ensures c.cell.ensures)

pub returns-in-Err : goal.returns-in-Err
returns-in-Err c =
    subst (λ (o : Option (Bor (List Row))). None ≡ shown_at c.args.key.now (page_rows o)) (sym c.in_ok-leaf.was) (shows_none c.in_ok-leaf.leaf.now c.args.key.now c.in-Err.field-0 c.in-Err.ensures)
