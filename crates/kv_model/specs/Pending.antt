-- What a chain, a cell and the history hold of one key, in each phase of the transaction whose update stands on top.
use Rattle.std.specs.Prelude.{◌≡◌, ◌⊎◌, ◌<◌, ◌≤◌, ℕ, List, [], ◌∷◌, ◌++◌, map, Option, Some}
use Rattle.std.specs.Option.{option_to_list}
use Rattle.item.specs.declared.Change.{Change}
use Rattle.stamp.specs.declared.Name.{Name}
use Rattle.stamp.specs.declared.Version.{Version}
use Rattle.kv_model.specs.Holds.{Member, Descends, Stores}
use Rattle.kv_model.specs.Captures.{UpTo}
use Rattle.kv_model.specs.Ordered.{Older}
use Rattle.kv_model.specs.History.{Entry, line, Write}
use Rattle.kv_model.specs.Machine.{Machine, Transaction, Phase, Prepared, Resolving, transaction_of, name_of}
use Rattle.kv_model.specs.Droppable.{covers}
use Rattle.kv_model.specs.Reads.{own_write, OthersEnding, Wrote, IsEnding, PreparedAt}

-- prepared is 0 where the update is not marked
pub record Update : Type 0 where
  pub version : Version Change
  pub prepared : ℕ

abbrev pub settled : Version Change → Update
settled v = record { version = v; prepared = 0 }

-- the mark means something once the transaction is prepared: it is the stamp of its prepare
abbrev pub MarkStands : Phase → List Entry → Name → Update → Type 0
MarkStands (Prepared stamp) history name u = u.prepared ≡ stamp
MarkStands Resolving history name u = (0 < u.prepared) × PreparedAt history name u.prepared
MarkStands _ history name u = Unit {0}

-- the version that its commit makes of an update of this name, not before its prepare
abbrev pub IsOutcome : Name → Update → Version Change → Type 0
IsOutcome name u v = (v.window.name ≡ name) × (u.prepared ≤ v.window.commit)

-- no version of the name is among these
abbrev pub NoneOf : Name → List (Version Change) → Type 0
NoneOf name versions = (v : Version Change) → Member v versions → v.window.name ≡ name → ⊥

-- the versions below the update: all that stand, but for the update's own one where it is resolved and not stamped yet
abbrev pub BelowStands : Phase → Name → Update → List (Version Change) → List (Version Change) → Type 0
BelowStands Resolving name u stands below = ((stands ≡ below) × NoneOf name stands) ⊎ ((v : Version Change) × IsOutcome name u v × (stands ≡ v ∷ below))
BelowStands _ name u stands below = stands ≡ below

-- the update is the write of this transaction, and of the others that wrote the key each is ending
pub record IsTop (m : Machine) (table : ℕ) (key : List ℕ) (u : Update) (below : List (Version Change)) : Type 0 where
  pub session : ℕ
  pub transaction : Transaction
  pub write : Write
  pub there : transaction_of m session ≡ Some transaction
  pub own : own_write transaction table key ≡ Some write
  pub name : u.version.window.name ≡ name_of m transaction
  pub change : u.version.change ≡ write.change
  pub mark : MarkStands transaction.phase m.history (name_of m transaction) u
  pub rest : BelowStands transaction.phase (name_of m transaction) u (line m.history table key) below
  pub alone : OthersEnding m session table key
  -- it is above what lies below
  pub above : (v : Version Change) → Member v below → Older v u.version

-- no transaction holds an update of the key, but one that is ending
abbrev pub NoneHolds : Machine → ℕ → List ℕ → Type 0
NoneHolds m table key = (s : ℕ) (t : Transaction) → Wrote m s table key t → IsEnding t.phase

-- top: the update of a transaction that has not ended, or none; below: the versions under it
abbrev pub TopStands : Machine → ℕ → List ℕ → List Update → List (Version Change) → Type 0
TopStands m table key [] below = (line m.history table key ≡ below) × NoneHolds m table key
TopStands m table key (u ∷ []) below = IsTop m table key u below
TopStands m table key (u ∷ (v ∷ rest)) below = ⊥

abbrev pub InFrame : List (Version Change) → Option (Version Change) → Version Change → Type 0
InFrame held cell v = Member v held ⊎ (cell ≡ Some v)

-- no transaction that has not ended has this name
abbrev pub HasEnded : Machine → Name → Type 0
HasEnded m x = (s : ℕ) (t : Transaction) → transaction_of m s ≡ Some t → x ≡ name_of m t → ⊥

-- one key: chain and cell are the frame's, records the history's; below is what top leaves of the line
pub record KeyStands (m : Machine) (table : ℕ) (key : List ℕ) (chain : List Update) (cell : Option (Version Change)) (InHistory : Version Change → Type 0) : Type 0 where
  pub top : List Update
  pub held : List (Version Change)
  pub below : List (Version Change)
  pub chained : chain ≡ top ++ map settled held
  -- newest first, the cell the oldest
  pub ordered : Descends Older (held ++ option_to_list cell)
  pub topped : TopStands m table key top below
  pub stores : Stores Older (covers m) below (InFrame held cell) InHistory
  -- each record has a version of an ended transaction at or above it in the frame
  pub layered : (v : Version Change) → InHistory v → (w : Version Change) × InFrame held cell w × HasEnded m w.window.name × UpTo Older v w
