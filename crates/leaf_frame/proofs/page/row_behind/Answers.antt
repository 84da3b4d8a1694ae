use Rattle.std.proofs.Common.{◌≡◌, List, Option, None, Some, Bor, sym, subst}
use Rattle.std.specs.Prelude.{MatchOption, slice_get}
use Rattle.kv_model.specs.Rows.{Up, Down}
use Rattle.row_page.specs.Rows.{Row, Ascends}
use Rattle.row_page.specs.Views.{row_seen}
use Rattle.reconcile.specs.Held.{page_rows}
use Rattle.leaf_frame.specs.declared.way.Way.{Way}
use Rattle.leaf_frame.specs.Near.{NoRowPast}
use Rattle.leaf_frame.specs.Walks.{IsRowAt}
use Rattle.leaf_frame.specs.Ways.{way_in}
use Rattle.leaf_frame.proofs.Pages.{behind_down, behind_up}
use Rattle.leaf_frame.proofs.page.row_behind.Goals as goal

pub returns-in-Up : goal.returns-in-Up
returns-in-Up c =
    let cell = c.args.here.cell in
    let from = Some cell.key.now in
    let found = c.row_at.result in
    let up = subst (λ (o : Option (Bor (List Row))). Ascends None (page_rows o)) c.in_ok-leaf.was c.requires.fit.ascend in
    let here = subst (λ (o : Option (Bor (List Row))). slice_get (page_rows o) c.args.here.index ≡ Some (row_seen cell)) c.in_ok-leaf.was c.requires.here in
    subst (λ (w : Way). MatchOption found (NoRowPast (way_in w) from (page_rows c.args.page)) (IsRowAt (way_in w) from (page_rows c.args.page))) (sym c.in-Up.is)
    (subst (λ (o : Option (Bor (List Row))). MatchOption found (NoRowPast Up from (page_rows o)) (IsRowAt Up from (page_rows o))) (sym c.in_ok-leaf.was)
    (behind_up c.in_ok-leaf.leaf.now cell c.args.here.index found up here c.row_at.ensures))

pub returns-in-Down : goal.returns-in-Down
returns-in-Down c =
    let cell = c.args.here.cell in
    let from = Some cell.key.now in
    let found = c.row_before.result in
    let up = subst (λ (o : Option (Bor (List Row))). Ascends None (page_rows o)) c.in_ok-leaf.was c.requires.fit.ascend in
    let here = subst (λ (o : Option (Bor (List Row))). slice_get (page_rows o) c.args.here.index ≡ Some (row_seen cell)) c.in_ok-leaf.was c.requires.here in
    subst (λ (w : Way). MatchOption found (NoRowPast (way_in w) from (page_rows c.args.page)) (IsRowAt (way_in w) from (page_rows c.args.page))) (sym c.in-Down.is)
    (subst (λ (o : Option (Bor (List Row))). MatchOption found (NoRowPast Down from (page_rows o)) (IsRowAt Down from (page_rows o))) (sym c.in_ok-leaf.was)
    (behind_down c.in_ok-leaf.leaf.now cell c.args.here.index found up here c.row_before.ensures))
