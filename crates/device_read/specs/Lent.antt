-- The rows that a leaf lends.
use Rattle.std.specs.Prelude.{List, map}
use Rattle.row_page.specs.declared.cell.Cell.{Cell}
use Rattle.row_page.specs.Rows.{Row}
use Rattle.row_page.specs.Views.{row_seen}
use Rattle.reconcile.specs.Held.{page_rows}
use Rattle.device_read.specs.declared.opened.LeafRows.{LeafRows}
use Rattle.device_read.specs.declared.opened.LeafRows.TheVariants.{Page, Cells}

abbrev pub lent_rows : LeafRows → List Row
lent_rows (Page page) = page_rows page
lent_rows (Cells cells) = map {A = Cell} row_seen cells.items
