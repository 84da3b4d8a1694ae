use Rattle.std.proofs.Common.{List, Option, None, Bor, option_map, sym, subst}
use Rattle.std.specs.Prelude.{MatchOption}
use Rattle.kv_model.specs.Rows.{Up, Down}
use Rattle.row_page.specs.Rows.{Row, Ascends}
use Rattle.reconcile.specs.Held.{page_rows}
use Rattle.leaf_frame.specs.declared.way.Way.{Way}
use Rattle.leaf_frame.specs.Near.{NoRowPast}
use Rattle.leaf_frame.specs.Walks.{IsRowAt}
use Rattle.leaf_frame.specs.Ways.{way_in}
use Rattle.leaf_frame.proofs.Pages.{down_at, up_at}
use Rattle.leaf_frame.proofs.page.near_row.Goals as goal

pub returns-in-Up : goal.returns-in-Up
returns-in-Up c =
    let from = option_map (λ k. k.now) c.args.bound in
    let found = c.row_at.result in
    let up = subst (λ (o : Option (Bor (List Row))). Ascends None (page_rows o)) c.in_ok-leaf.was c.requires.ascend in
    subst (λ (w : Way). MatchOption found (NoRowPast (way_in w) from (page_rows c.args.page)) (IsRowAt (way_in w) from (page_rows c.args.page))) (sym c.in-Up.is)
    (subst (λ (o : Option (Bor (List Row))). MatchOption found (NoRowPast Up from (page_rows o)) (IsRowAt Up from (page_rows o))) (sym c.in_ok-leaf.was)
    (up_at from c.in_ok-leaf.leaf.now c.place_above.result found up c.place_above.ensures c.row_at.ensures))

pub returns-in-Down : goal.returns-in-Down
returns-in-Down c =
    let from = option_map (λ k. k.now) c.args.bound in
    let found = c.row_before.result in
    let up = subst (λ (o : Option (Bor (List Row))). Ascends None (page_rows o)) c.in_ok-leaf.was c.requires.ascend in
    subst (λ (w : Way). MatchOption found (NoRowPast (way_in w) from (page_rows c.args.page)) (IsRowAt (way_in w) from (page_rows c.args.page))) (sym c.in-Down.is)
    (subst (λ (o : Option (Bor (List Row))). MatchOption found (NoRowPast Down from (page_rows o)) (IsRowAt Down from (page_rows o))) (sym c.in_ok-leaf.was)
    (down_at from c.in_ok-leaf.leaf.now c.place_below.result found up c.place_below.ensures c.row_before.ensures))
