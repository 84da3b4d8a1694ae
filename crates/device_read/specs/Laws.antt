-- What a device that reads as a content has for its readers.
use Rattle.std.specs.Prelude.{◌≡◌, ℕ, List, length, Option, Some, reverse, slice_get}
use Rattle.kv_model.specs.Content.{Content}
use Rattle.kv_model.specs.Holds.{Member}
use Rattle.kv_model.specs.History.{Table}
use Rattle.kv_model.specs.Rows.{Up, Down}
use Rattle.row_page.specs.Rows.{Row}
use Rattle.inner_page.specs.Children.{IsUnderKey}
use Rattle.stored.specs.Stored.{Reads}
use Rattle.device_read.specs.Readers.{Held, IsReaderOf, HasPages, entries_at, tables_in, leaf_count}
use Rattle.device_read.specs.Rows.{AreAllRows, HasTables, rows_in, value_in}
use Rattle.device_read.specs.Refusals.{LeafIsAtFault}
use Rattle.device_read.specs.Leaves.{HasNoLeaf, HasValue}
use Rattle.device_read.specs.Spoilt.{IsSpoiltFrom}

-- its tables are those of the machine that an opening makes
abbrev pub ReadersHaveTables : Type 0
ReadersHaveTables = (bytes : List ℕ) (content : Content) (h : Held) → IsReaderOf bytes h → Reads bytes content → HasTables content (tables_in h)

-- the pages of a table, as many as it has leaves: they have all its rows, and each key stands under the entry of its leaf
pub record AreWholePages (bytes : List ℕ) (content : Content) (h : Held) (place number : ℕ) (pages : List (List Row)) : Type 0 where
  pub has : HasPages bytes h place pages
  pub count : length pages ≡ leaf_count h place
  pub up : AreAllRows Up content number (rows_in pages)
  pub down : AreAllRows Down content number (reverse (rows_in pages))
  pub under : (i : ℕ) (page : List Row) (r : Row) → slice_get pages i ≡ Some page → Member r page → IsUnderKey (entries_at h place) r.0 i

-- each table has such pages
abbrev pub ReadersHavePages : Type 0
ReadersHavePages = (bytes : List ℕ) (content : Content) (h : Held) (place : ℕ) (t : Table) → IsReaderOf bytes h → Reads bytes content → slice_get (tables_in h) place ≡ Some t
    → (pages : List (List Row)) × AreWholePages bytes content h place t.number pages

-- the value of a key whose leaf is there is that of the machine that an opening makes of the whole device
abbrev pub ReadersHaveValues : Type 0
ReadersHaveValues = (whole bytes : List ℕ) (content : Content) (h : Held) (place : ℕ) (t : Table) (key : List ℕ) (v : Option (List ℕ)) → IsSpoiltFrom whole bytes → IsReaderOf bytes h → Reads whole content → slice_get (tables_in h) place ≡ Some t → HasValue bytes h place key v
    → v ≡ value_in content t.number key

-- a device that reads has no such damage
abbrev pub FaultyLeavesDoNotRead : Type 0
FaultyLeavesDoNotRead = (bytes : List ℕ) (at want found : ℕ) (content : Content) → LeafIsAtFault bytes at want found → Reads bytes content → ⊥

-- a leaf at fault below a reader is damage of the device
abbrev pub MissingLeavesAreAtFault : Type 0
MissingLeavesAreAtFault = (bytes : List ℕ) (h : Held) (place i at want found : ℕ) → IsReaderOf bytes h → HasNoLeaf bytes h place i at want found → LeafIsAtFault bytes at want found

-- a device that a reader was opened on is one of those that may have leaves at fault
abbrev pub NoneNeedBeAtFault : Type 0
NoneNeedBeAtFault = (bytes : List ℕ) (h : Held) → IsReaderOf bytes h → IsSpoiltFrom bytes bytes

-- a reader of a device with leaves at fault is one of the whole device
abbrev pub SpoiltDevicesHaveReaders : Type 0
SpoiltDevicesHaveReaders = (whole bytes : List ℕ) (h : Held) → IsSpoiltFrom whole bytes → IsReaderOf bytes h → IsReaderOf whole h
