-- What an opening makes of each key of a device, and what a finished checkpoint opens to.
use Rattle.std.specs.Prelude.{◌≡◌, ℕ, true, false, List, find, filter, Option, Some, None, option_map}
use Rattle.item.specs.declared.Change.{Change}
use Rattle.stamp.specs.declared.Version.{Version}
use Rattle.kv_model.specs.Holds.{Member}
use Rattle.kv_model.specs.History.{Placed, of_key, is_at, has_table, tables, first, line, committed}
use Rattle.kv_model.specs.Machine.{Machine, Checkpoint, finished}
use Rattle.kv_model.specs.Captures.{CapturedIn}
use Rattle.kv_model.specs.Content.{Content, start, IsLayered, OpensAs, is_kept_version, sees_name, descending, table_lt}
use Rattle.kv_model.specs.Regular.{IsRegular, IsVersionOf}
use Rattle.kv_model.specs.Marks.{MarkedStands, recorded_mark}
use Rattle.kv_model.specs.StoreLaws.{Held}
use Rattle.kv_model.specs.Valid.{Valid}

-- the cell of a key on a device
abbrev pub cell_of : Content → ℕ → List ℕ → Option (Version Change)
cell_of c table key = option_map (λ (p : Placed). p.version) (find (is_at table key) c.cells)

-- its records on a device
abbrev pub records_of : Content → ℕ → List ℕ → List (Version Change)
records_of c table key = of_key table key c.records

-- its records that an opening keeps
abbrev pub kept_records_of : Content → ℕ → List ℕ → List (Version Change)
kept_records_of c table key = of_key table key (filter (is_kept_version c) c.records)

-- each key of a table that is there stands under the record's mark
abbrev pub StartsStand : Type 0
StartsStand = (c : Content) (table : ℕ) (key : List ℕ) → IsRegular c → IsLayered c → has_table c.tables table ≡ true
    → MarkedStands (start c) table key (recorded_mark c) (cell_of c table key) (Held (kept_records_of c table key))

-- what the finish of a running checkpoint writes
pub record Finishes (m : Machine) (c : Checkpoint) (content : Content) : Type 0 where
  pub oldest : content.oldest ≡ c.oldest
  pub stable : content.stable ≡ c.stable
  -- the tables of the prefix
  pub tables : descending table_lt content.tables ≡ tables (first c.prefix m.history)
  -- of the names that are written, the snapshot sees those that are committed in the prefix
  pub sees : (p : Placed) → IsVersionOf content p → sees_name content.run content.snapshot p.version.window.name ≡ committed m.history c.prefix p.version.window.name
  -- each key of these tables is captured
  pub captured : (table : ℕ) (key : List ℕ) → has_table content.tables table ≡ true → CapturedIn m c table key (cell_of content table key) (Held (records_of content table key))
  -- of others there is no cell, and the records are of the line
  pub no_cell : (table : ℕ) (key : List ℕ) → has_table content.tables table ≡ false → cell_of content table key ≡ None
  pub within : (table : ℕ) (key : List ℕ) → has_table content.tables table ≡ false → (v : Version Change) → Member v (records_of content table key) → Member v (line m.history table key)

-- it opens as what the machine completes
abbrev pub FinishOpens : Type 0
FinishOpens = (m : Machine) (c : Checkpoint) (content : Content) → Valid m → m.checkpoint ≡ Some c → IsRegular content → Finishes m c content → OpensAs content (finished m c).completed
