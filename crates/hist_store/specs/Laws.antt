-- What calls leave of the versions of every key.
use Rattle.std.specs.Prelude.{◌≡◌, ℕ, List, [], ◌∷◌, map, find}
use Rattle.item.specs.declared.Change.{Change}
use Rattle.stamp.specs.declared.Name.{Name}
use Rattle.stamp.specs.declared.Version.{Version}
use Rattle.stamp.specs.declared.View.{View}
use Rattle.kv_model.specs.Holds.{Descends, Picks}
use Rattle.kv_model.specs.Ordered.{Older}
use Rattle.kv_model.specs.StoreLaws.{Held}
use Rattle.kv_model.specs.SweepLaws.{Added, Swept}
use Rattle.hist_store.specs.declared.key_history.KeyHistory.{KeyHistory}
use Rattle.hist_store.specs.Versions.{versions_of, with_version, added, is_past, swept_versions, swept_slot, is_admitted}

-- an add leaves its key with the version among its others, and every other key with the versions that it had
abbrev pub AddsChange : Type 0
AddsChange = (table : ℕ) (key : List ℕ) (v : Version Change) (slots : List KeyHistory) → versions_of table key (added table key v slots) ≡ with_version v (versions_of table key slots)

abbrev pub AddsKeep : Type 0
AddsKeep = (table other : ℕ) (key its : List ℕ) (v : Version Change) (slots : List KeyHistory) → (other ≡ table → its ≡ key → ⊥) → versions_of other its (added table key v slots) ≡ versions_of other its slots

-- what was there stays, and the name that is added is there
abbrev pub AddsAdd : Type 0
AddsAdd = (v : Version Change) (versions : List (Version Change)) → Added versions (v ∷ []) (with_version v versions)

-- a sweep of all slots sweeps the versions of each key
abbrev pub SweepsChange : Type 0
SweepsChange = (table : ℕ) (key : List ℕ) (pin : ℕ) (floor : Name) (slots : List KeyHistory) → versions_of table key (map (swept_slot pin floor) slots) ≡ swept_versions pin floor (versions_of table key slots)

-- each version that is lost lies below one that is past
abbrev pub SweepsSweep : Type 0
SweepsSweep = (pin : ℕ) (floor : Name) (versions : List (Version Change)) → Descends Older versions → Swept (is_past pin floor) versions (swept_versions pin floor versions)

-- names that descend strictly go on to, over adds and sweeps
abbrev pub AddsDescend : Type 0
AddsDescend = (v : Version Change) (versions : List (Version Change)) → Descends Older versions → Descends Older (with_version v versions)

abbrev pub SweepsDescend : Type 0
SweepsDescend = (pin : ℕ) (floor : Name) (versions : List (Version Change)) → Descends Older versions → Descends Older (swept_versions pin floor versions)

-- the first that is admitted is the newest
abbrev pub FirstIsNewest : Type 0
FirstIsNewest = (view : View) (versions : List (Version Change)) → Descends Older versions → Picks Older (Held versions) (is_admitted view) (find (is_admitted view) versions)
