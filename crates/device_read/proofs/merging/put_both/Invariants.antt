use Rattle.std.proofs.Common.{◌≡◌, ◌++◌, drop, map}
use Rattle.row_page.specs.declared.cell.Cell.{Cell}
use Rattle.row_page.specs.Views.{row_seen}
use Rattle.device_read.specs.Merging.{merged}
use Rattle.device_read.specs.Newest.{rows_of}
use Rattle.device_read.proofs.merging.put_both.Given as goal

abbrev pub invariant-loop-i : goal.invariant-loop-i
invariant-loop-i l = map {A = Cell} row_seen l.cells.items ++ merged (drop l.i l.page) (rows_of l.rest) ≡ map {A = Cell} row_seen l.fn.cells.items ++ merged l.page (rows_of l.newest)
