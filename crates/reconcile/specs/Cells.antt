-- What a page says of a version.
use Rattle.item.specs.declared.Change.{Change}
use Rattle.item.specs.declared.Change.TheVariants.{Put as Puts, Remove as Removes}
use Rattle.stamp.specs.declared.Version.{Version}
use Rattle.row_page.specs.declared.change.CellChange.TheVariants.{Put, Remove}
use Rattle.row_page.specs.Changes.{PageChange}

abbrev pub cell_change : Change → PageChange
cell_change (Puts value) = Put value
cell_change Removes = Remove

abbrev pub cell_version : Version Change → Version PageChange
cell_version v = record { window = v.window; change = cell_change v.change }
