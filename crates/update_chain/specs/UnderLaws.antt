-- What is done to a chain leaves each record of the history below a version that had ended.
use Rattle.std.specs.Prelude.{◌≡◌, ℕ, Bool, false, List, map, Option}
use Rattle.item.specs.declared.Change.{Change}
use Rattle.stamp.specs.declared.Name.{Name}
use Rattle.stamp.specs.declared.Version.{Version}
use Rattle.kv_model.specs.Reconciling.{LiesUnder, held_in}
use Rattle.update_chain.specs.declared.update.Update.{Update}
use Rattle.update_chain.specs.Updates.{update_in, front_changed, installed, stamped, marked, undone}

-- each record lies at or below a version of the frame that passes
abbrev pub LieUnder : (Version Change → Bool) → List Update → Option (Version Change) → List (Version Change) → Type 0
LieUnder live chain cell records = LiesUnder live (held_in (map update_in chain) cell) records

-- so after what a transaction of this name does to the chain
pub record LieUnderAfter (live : Version Change → Bool) (name : Name) (chain : List Update) (cell : Option (Version Change)) (records : List (Version Change)) : Type 0 where
  pub installs : (u : Update) → u.version.window.name ≡ name → LieUnder live (installed u chain) cell records
  pub marks : (prepare : ℕ) → LieUnder live (front_changed name (marked prepare) chain) cell records
  pub stamps : (commit durable : ℕ) → LieUnder live (front_changed name (stamped commit durable) chain) cell records
  pub undoes : LieUnder live (undone name chain) cell records

-- where no version of the name passes
abbrev pub RecordsLieUnder : Type 0
RecordsLieUnder = (live : Version Change → Bool) (name : Name) (chain : List Update) (cell : Option (Version Change)) (records : List (Version Change))
    → ((v : Version Change) → v.window.name ≡ name → live v ≡ false) → LieUnder live chain cell records → LieUnderAfter live name chain cell records
