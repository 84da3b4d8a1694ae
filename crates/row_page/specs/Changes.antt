-- What a page says of a key, and the change of the model that it stands for.
use Rattle.std.specs.Prelude.{ℕ, List}
use Rattle.std.specs.Borrow.{Bor}
use Rattle.item.specs.declared.change.Change.{Change}
use Rattle.item.specs.declared.change.Change.TheVariants.{Put as Puts, Remove as Removes}
use Rattle.stamp.specs.declared.version.Version.{Version}
use Rattle.row_page.specs.declared.change.CellChange.{CellChange}
use Rattle.row_page.specs.declared.change.CellChange.TheVariants.{Put, Remove}

-- what a page says of a key
abbrev pub PageChange : Type 0
PageChange = CellChange (List ℕ)

-- the same, of a cell that lends its value
abbrev pub change_seen : CellChange (Bor (List ℕ)) → PageChange
change_seen (Put value) = Put value.now
change_seen Remove = Remove

-- ---- in the model

-- the change that it stands for
abbrev pub change_in : PageChange → Change
change_in (Put value) = Puts value
change_in Remove = Removes

abbrev pub version_in : Version PageChange → Version Change
version_in v = record { window = v.window; change = change_in v.change }
