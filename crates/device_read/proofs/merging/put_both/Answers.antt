use Rattle.std.proofs.Common.{◌∙◌, ◌+◌, ◌++◌, List, ap, drop, map, sym}
use Rattle.row_page.specs.declared.cell.Cell.{Cell}
use Rattle.row_page.specs.Rows.{Row}
use Rattle.row_page.specs.Views.{row_seen}
use Rattle.device_read.specs.Merging.{merged}
use Rattle.device_read.specs.Newest.{rows_of}
use Rattle.device_read.proofs.Cells.{drop_here, put_more}
use Rattle.device_read.proofs.merging.put_both.Goals as goal

pub loop-i-preserved : goal.loop-i-preserved
loop-i-preserved c =
    let page : List Row = c.args.page.now in
    let before : List Row = map {A = Cell} row_seen c.loop-i.cells.items in
    let rest : List Row = rows_of c.loop-i.rest.now in
    put_more before (map {A = Cell} row_seen c.put_row.new.cells.items) (row_seen c.cell.result) (drop (c.loop-i.i + 1) page) rest (rows_of c.in_ok-rest.rest.now) c.in_ok-rest.ensures.put c.in_ok-rest.ensures.rest
    ∙ ap (λ (l : List Row). before ++ merged l rest) (sym (drop_here page c.loop-i.i (row_seen c.cell.result) c.cell.ensures))
    ∙ c.loop-i.invariant
