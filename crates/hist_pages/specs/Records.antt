-- The versions of every key as records of the device: each once, in the order of the device.
use Rattle.std.specs.Prelude.{ℕ, List, None}
use Rattle.std.specs.List.{AllByRecursion}
use Rattle.std.specs.Ordering.{nat_cmp, then_cmp, on}
use Rattle.std.specs.declared.cmp.Ordering.{Ordering}
use Rattle.item.specs.declared.change.Change.{Change}
use Rattle.item.specs.declared.change.Change.TheVariants.{Put as Puts, Remove as Removes}
use Rattle.stamp.specs.declared.Version.{Version}
use Rattle.kv_model.specs.Holds.{Member}
use Rattle.row_page.specs.declared.change.CellChange.TheVariants.{Put, Remove}
use Rattle.row_page.specs.Changes.{PageChange, version_in}
use Rattle.stored.specs.HistoryTree.{HistoryRecord, RecordFits, RecordsAscend, NamesOnce}
use Rattle.hist_store.specs.declared.key_history.KeyHistory.{KeyHistory}
use Rattle.hist_store.specs.Versions.{versions_of}

-- how a change stands on the device
abbrev pub change_on : Change → PageChange
change_on (Puts value) = Put value
change_on Removes = Remove

-- a version of a key of a table
abbrev pub record_of : ℕ → List ℕ → Version Change → HistoryRecord
record_of table key v = record { table = table; key = key; version = record { window = v.window; change = change_on v.change } }

-- each version of a key fits a leaf
abbrev pub VersionsFit : KeyHistory → Type 0
VersionsFit h = AllByRecursion (λ (v : Version Change). RecordFits (record_of h.table h.key v)) h.versions

-- each version of each key fits a leaf
abbrev pub Fits : List KeyHistory → Type 0
Fits slots = AllByRecursion (λ (h : KeyHistory). VersionsFit h) slots

-- Each version of each key is among the records, and nothing else is. They ascend, so none is there twice, and a name stands once for each key.
pub record AreRecordsOf (slots : List KeyHistory) (records : List HistoryRecord) : Type 0 where
  pub all : (table : ℕ) (key : List ℕ) (v : Version Change) → Member v (versions_of table key slots) → Member (record_of table key v) records
  pub only : (r : HistoryRecord) → Member r records → Member (version_in r.version) (versions_of r.table r.key slots)
  pub ascend : RecordsAscend None records
  pub once : NamesOnce records

-- versions of a key on the device: by commit stamp, then by name
abbrev pub stamp_cmp : Version Change → Version Change → Ordering
stamp_cmp = then_cmp (on (λ v. v.window.commit) nat_cmp) (then_cmp (on (λ v. v.window.name.run) nat_cmp) (on (λ v. v.window.name.id) nat_cmp))
