-- What is added to a history.
use Rattle.std.specs.Prelude.{◌≡◌, ◌⊎◌, ◌<◌, ℕ, true, List, Some, slice_get}
use Rattle.std.specs.List.{AllByRecursion}
use Rattle.item.specs.declared.Change.{Change}
use Rattle.stamp.specs.declared.Version.{Version}
use Rattle.kv_model.specs.History.{Table, has_table}
use Rattle.kv_model.specs.Holds.{Member}
use Rattle.reconcile.specs.declared.image.Moved.{Moved}
use Rattle.reconcile.specs.Moving.{versions_in}
use Rattle.hist_store.specs.declared.key_history.KeyHistory.{KeyHistory}
use Rattle.hist_store.specs.Versions.{versions_of}

-- The history keeps what it had, and has of each key these versions more, or others of their names; and no others.
pub record HasMore (Of : ℕ → List ℕ → Version Change → Type 0) (old new : List KeyHistory) : Type 0 where
  pub from : (table : ℕ) (key : List ℕ) (v : Version Change) → Member v (versions_of table key new) → Member v (versions_of table key old) ⊎ Of table key v
  pub kept : (table : ℕ) (key : List ℕ) (v : Version Change) → Member v (versions_of table key old) → Member v (versions_of table key new)
  pub into : (table : ℕ) (key : List ℕ) (v : Version Change) → Of table key v → (w : Version Change) × Member w (versions_of table key new) × (w.window.name ≡ v.window.name)

-- these versions, each as one of a key of this table
abbrev pub OfMoved : ℕ → List Moved → ℕ → List ℕ → Version Change → Type 0
OfMoved number moved table key v = (table ≡ number) × Member v (versions_in key moved)

-- each slot is of one of these tables
abbrev pub AreKnown : List Table → List KeyHistory → Type 0
AreKnown tables slots = AllByRecursion (λ (h : KeyHistory). has_table tables h.table ≡ true) slots

-- the table at a place of a catalog is one of these, if there is one
abbrev pub IsAmong : List Table → ℕ → List Table → Type 0
IsAmong tables place known = (t : Table) → slice_get tables place ≡ Some t → has_table known t.number ≡ true

-- so is each of its first ones
abbrev pub AreAmong : List Table → ℕ → List Table → Type 0
AreAmong tables count known = (place : ℕ) → place < count → IsAmong tables place known
