-- What the rows of a leaf show of a key.
use Rattle.std.specs.Prelude.{ℕ, List, Option, option_map}
use Rattle.item.specs.declared.change.Change.{Change}
use Rattle.stamp.specs.declared.version.Version.{Version}
use Rattle.row_page.specs.Changes.{version_in}
use Rattle.row_page.specs.Rows.{Row}
use Rattle.leaf_rows.specs.Rows.{version_at}

-- the version of a key that the rows show
abbrev pub shown_at : List ℕ → List Row → Option (Version Change)
shown_at key rows = option_map version_in (version_at key rows)
