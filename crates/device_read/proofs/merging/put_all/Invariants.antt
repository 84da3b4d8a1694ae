use Rattle.std.proofs.Common.{◌≡◌, ◌++◌, take, map}
use Rattle.row_page.specs.declared.cell.Cell.{Cell}
use Rattle.row_page.specs.Views.{row_seen}
use Rattle.device_read.specs.Newest.{rows_of}
use Rattle.device_read.proofs.merging.put_all.Given as goal

abbrev pub invariant-loop-of : goal.invariant-loop-of
invariant-loop-of l = map {A = Cell} row_seen l.cells.items ≡ map {A = Cell} row_seen l.fn.cells.items ++ rows_of (take l.of-index l.newest)
