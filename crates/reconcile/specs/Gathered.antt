-- Rows as they are gathered, key by key.
use Rattle.std.specs.Prelude.{◌≡◌, ◌↔◌, ◌≤◌, ℕ, List, [], ◌∷◌, ◌++◌, Option, Some, None, IsTrue, slice_get}
use Rattle.std.specs.Option.{option_to_list}
use Rattle.item.specs.declared.Change.{Change}
use Rattle.stamp.specs.declared.Version.{Version}
use Rattle.row_page.specs.Rows.{Row}
use Rattle.row_page.specs.Greatest.{greatest_in, most_in, names_of, durables_of}
use Rattle.row_page.specs.Writing.{Wrote}
use Rattle.leaf_rows.specs.Rows.{image_length}
use Rattle.snapshot.specs.Sight.{Sight}
use Rattle.leaf_chains.specs.declared.slot.KeyChain.{KeyChain}
use Rattle.reconcile.specs.declared.gathered.Gathered.{Gathered}
use Rattle.reconcile.specs.Cells.{cell_version}
use Rattle.reconcile.specs.Capture.{captured}

-- the row of a key, where there is a version
abbrev pub row_of : List ℕ → Option (Version Change) → List Row
row_of key None = []
row_of key (Some v) = (key, cell_version v) ∷ []

-- the rows of some keys with their chains
abbrev pub rows_of : Sight → List KeyChain → List Row
rows_of s [] = []
rows_of s (c ∷ chains) = row_of c.key (captured s c.chain) ++ rows_of s chains

-- the keys with their chains in these slots
abbrev pub slots_at : List KeyChain → List ℕ → List KeyChain
slots_at slots [] = []
slots_at slots (i ∷ way) = option_to_list (slice_get slots i) ++ slots_at slots way

-- these rows are gathered, and they fit one leaf
pub record HasGathered (g : Gathered) (rows : List Row) : Type 0 where
  pub wrote : Wrote g.writer rows
  pub limit : g.writer.limit ≡ 32768
  pub small : image_length rows ≤ 32768
  pub greatest : g.greatest ≡ greatest_in (names_of rows)
  pub durable : g.durable ≡ most_in (durables_of rows)
  pub empty : IsTrue g.is_empty ↔ (rows ≡ [])
