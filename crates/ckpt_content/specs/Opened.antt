-- What an opening makes of a key of a device.
use Rattle.std.specs.Prelude.{◌≡◌, ◌⊎◌, ℕ, true, List, Option, Some, None, if◌then◌else◌}
use Rattle.item.specs.declared.Change.{Change}
use Rattle.stamp.specs.declared.Version.{Version}
use Rattle.kv_model.specs.AgreementLaws.{head_of}
use Rattle.kv_model.specs.Captures.{Either, In}
use Rattle.kv_model.specs.CaptureLaws.{KeptOf}
use Rattle.kv_model.specs.Content.{Content}
use Rattle.kv_model.specs.Holds.{Descends, Member}
use Rattle.kv_model.specs.Marks.{Mark, keeps_cell, recorded_mark}
use Rattle.kv_model.specs.OpeningLaws.{cell_of, kept_records_of}
use Rattle.kv_model.specs.Ordered.{Older}
use Rattle.kv_model.specs.StoreLaws.{Held}
use Rattle.hist_store.specs.Versions.{with_version}

-- the key's cell, where the record keeps it, or one of its records that are kept
abbrev pub IsKept : Content → ℕ → List ℕ → Version Change → Type 0
IsKept c table key v = Either (KeptOf (keeps_cell (recorded_mark c)) (In (cell_of c table key))) (Held (kept_records_of c table key)) v

-- the line of a key: what is kept of it, newest first
pub record IsLineOf (c : Content) (table : ℕ) (key : List ℕ) (l : List (Version Change)) : Type 0 where
  pub from : (v : Version Change) → Member v l → IsKept c table key v
  pub into : (v : Version Change) → IsKept c table key v → Member v l
  pub descends : Descends Older l
  -- the cell is the newest, where it is kept
  pub newest : (v : Version Change) → cell_of c table key ≡ Some v → keeps_cell (recorded_mark c) v ≡ true → head_of l ≡ Some v

-- these are the records of a key that are kept, newest first
pub record AreKeptRecords (c : Content) (table : ℕ) (key : List ℕ) (versions : List (Version Change)) : Type 0 where
  pub from : (v : Version Change) → Member v versions → Member v (kept_records_of c table key)
  pub into : (v : Version Change) → Member v (kept_records_of c table key) → Member v versions
  pub descends : Descends Older versions

-- with the cell above them, where it is kept and is none of them
abbrev pub with_cell : Mark → Option (Version Change) → List (Version Change) → List (Version Change)
with_cell mark None versions = versions
with_cell mark (Some v) versions = if keeps_cell mark v then with_version v versions else versions

-- these are the versions of a line below its newest one, and that one may be among them
pub record AreBelow (l versions : List (Version Change)) : Type 0 where
  pub within : (v : Version Change) → Member v versions → Member v l
  pub all : (v : Version Change) → Member v l → (head_of l ≡ Some v) ⊎ Member v versions
