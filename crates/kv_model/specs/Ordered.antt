-- Orderly histories: each commit follows what it may follow.
use Rattle.std.specs.Prelude.{◌≡◌, ◌⊎◌, ◌<◌, ◌≤◌, ℕ, true, List, [], ◌∷◌, length, filter, Option}
use Rattle.std.specs.Option.{option_to_list}
use Rattle.item.specs.declared.Change.{Change}
use Rattle.stamp.specs.declared.Name.{Name}
use Rattle.stamp.specs.declared.Version.{Version}
use Rattle.kv_model.specs.Holds.{Member}
use Rattle.kv_model.specs.History.{Entry, Create, Commit, Resolve, Table, Write, line, writes_at, released, tables, created, has_table}

-- names are ordered by run, then by id
abbrev pub NameBelow : Name → Name → Type 0
NameBelow x y = (x.run < y.run) ⊎ ((x.run ≡ y.run) × (x.id < y.id))

abbrev pub Older : Version Change → Version Change → Type 0
Older v w = NameBelow v.window.name w.window.name

-- a standing version under a write is of an older name, and was released before it
pub record Under (name : Name) (older : List Entry) (v : Version Change) : Type 0 where
  pub below : NameBelow v.window.name name
  pub sooner : (n : ℕ) → released older n name ≡ true → released older n v.window.name ≡ true
  pub whole : released older (length older) v.window.name ≡ true

-- the writes of a commit: of tables that are there, one at most of each key, above older versions alone
pub record Follows (name : Name) (writes : List Write) (older : List Entry) : Type 0 where
  pub single : (table : ℕ) (key : List ℕ) → (found : Option Write) × (filter (writes_at table key) writes ≡ option_to_list found)
  pub above : (table : ℕ) (key : List ℕ) (w : Write) → Member w (filter (writes_at table key) writes) → (v : Version Change) → Member v (line older table key) → Under name older v
  pub stamps : (w : Write) → Member w writes → w.commit ≤ w.durable
  pub placed : (w : Write) → Member w writes → has_table (tables older) w.table ≡ true

-- a new table has a number above all that were ever made, and a name that none has which is there
pub record IsNewTable (table : Table) (history : List Entry) : Type 0 where
  pub number : (t : Table) → Member t (created history) → t.number < table.number
  pub name : (t : Table) → Member t (tables history) → t.name ≡ table.name → ⊥

abbrev pub IsOrderly : List Entry → Type 0
IsOrderly [] = Unit {0}
IsOrderly (Create table ∷ older) = IsNewTable table older × IsOrderly older
IsOrderly (Commit name writes ∷ older) = Follows name writes older × IsOrderly older
IsOrderly (Resolve name writes ∷ older) = (Follows name writes older × (released older (length older) name ≡ true)) × IsOrderly older
IsOrderly (_ ∷ older) = IsOrderly older
