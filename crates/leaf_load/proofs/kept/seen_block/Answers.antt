use Rattle.std.proofs.Common.{◌≡◌, ◌+◌, ◌≤◌, ◌∙◌, List, length, subst, sym, take}
use Rattle.std.proofs.lemmas.List.{take_all}
use Rattle.row_page.specs.Rows.{Row, cells}
use Rattle.row_page.specs.Views.{row_seen}
use Rattle.row_page.specs.Writing.{Wrote}
use Rattle.leaf_rows.specs.Contents.{is_seen_row, seen_rows}
use Rattle.leaf_load.proofs.Seen.{have_room, some_next, some_rows}
use Rattle.leaf_load.proofs.kept.seen_block.Goals as goal

pub loop-i-preserved : goal.loop-i-preserved
loop-i-preserved c =
    let m = c.args.marks.now in
    let ids = c.args.ids.now in
    let page = c.args.page.now in
    let i = c.loop-i.i in
    let next = some_next (is_seen_row m ids) page i (row_seen c.cell.result) c.cell.ensures in
    let room : 16 + length (cells (seen_rows m ids (take (i + 1) page))) ≤ c.loop-i.writer.limit = subst (λ n. 16 + length (cells (seen_rows m ids (take (i + 1) page))) ≤ n) (sym c.loop-i.invariant.limit) (have_room (is_seen_row m ids) page (i + 1) c.requires) in
    record {
      wrote = subst (λ (l : List Row). Wrote c.put_seen.new.writer l) (sym next)
          (c.put_seen.ensures.wrote (seen_rows m ids (take i page)) c.loop-i.invariant.wrote (subst (λ (l : List Row). 16 + length (cells l) ≤ c.loop-i.writer.limit) next room));
      limit = c.put_seen.ensures.limit ∙ c.loop-i.invariant.limit;
    }

pub returns : goal.returns
returns c =
    let m = c.args.marks.now in
    let ids = c.args.ids.now in
    let page = c.args.page.now in
    let all : take c.loop-i.i page ≡ page = take_all c.loop-i.i page (subst (λ n. n ≤ c.loop-i.i) c.len-i-end.ensures c.loop-i-test.false) in
    c.finish.ensures (seen_rows m ids page) (subst (λ (l : List Row). Wrote c.loop-i.writer (seen_rows m ids l)) all c.loop-i.invariant.wrote) (some_rows (is_seen_row m ids) page c.requires)
