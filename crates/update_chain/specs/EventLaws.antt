-- What an event, with what the engine does to the chain beside it, leaves of a chain that stands for its key.
use Rattle.std.specs.Prelude.{◌≡◌, ◌⊎◌, ℕ, Bool, true, List, [], ◌∷◌, Option, Some, map}
use Rattle.item.specs.declared.Change.{Change}
use Rattle.stamp.specs.declared.Name.{Name}
use Rattle.stamp.specs.declared.Version.{Version}
use Rattle.stamp.specs.declared.View.{View}
use Rattle.kv_model.specs.Holds.{Member}
use Rattle.kv_model.specs.History.{Write, line, version_of}
use Rattle.kv_model.specs.Machine.{Machine, Transaction, Phase, Running, Prepared, Resolving, Leaving, transaction_of, name_of, Event, AcceptWrite, PrepareAt, CommitAt, EndTransaction, RollbackToStable, after}
use Rattle.kv_model.specs.Reads.{own_write, Wrote}
use Rattle.kv_model.specs.Allowed.{Allowed}
use Rattle.kv_model.specs.Valid.{Valid}
use Rattle.kv_model.specs.Pending.{KeyStands, NoneOf}
use Rattle.kv_model.specs.StoreLaws.{Held}
use Rattle.snapshot.specs.Past.{IsPast}
use Rattle.update_chain.specs.declared.update.Update.{Update}
use Rattle.update_chain.specs.Updates.{update_in, unmarked_update, front_changed, installed, stamped, marked, undone, trimmed}
use Rattle.update_chain.specs.Answers.{ViewStands}
use Rattle.update_chain.specs.Writing.{may_follow_by}

-- chain and cell of the frame, and the history's records, stand for the key
abbrev pub StandsFor : Machine → ℕ → List ℕ → List Update → Option (Version Change) → List (Version Change) → Type 0
StandsFor m table key chain cell records = KeyStands m table key (map update_in chain) cell (Held records)

abbrev pub DidNotWrite : Machine → ℕ → ℕ → List ℕ → Type 0
DidNotWrite m session table key = (t : Transaction) → Wrote m session table key t → ⊥

-- it writes no update of the key, and releases, ends and takes away none
abbrev pub LeavesAlone : Machine → ℕ → List ℕ → Event → Type 0
LeavesAlone m table key (AcceptWrite session number other change) = number ≡ table → other ≡ key → ⊥
LeavesAlone m table key (PrepareAt session stamp) = DidNotWrite m session table key
LeavesAlone m table key (CommitAt session commit durable) = DidNotWrite m session table key
LeavesAlone m table key (EndTransaction session) = DidNotWrite m session table key
LeavesAlone m table key RollbackToStable = m.stable ≡ 0
LeavesAlone m table key _ = Unit {0}

-- the chain as it is; so at the first event of a rollback, also of who wrote the key
abbrev pub ChainsGoOn : Type 0
ChainsGoOn = (m : Machine) (event : Event) (table : ℕ) (key : List ℕ) (chain : List Update) (cell : Option (Version Change)) (records : List (Version Change))
    → Valid m → Allowed m event → LeavesAlone m table key event → StandsFor m table key chain cell records → StandsFor (after m event) table key chain cell records

-- the newest update, if there is one, may be followed
abbrev pub may_follow_front : View → List Update → Bool
may_follow_front view [] = true
may_follow_front view (u ∷ older) = may_follow_by view u

-- an accepted write, with its update installed; what the update's stamps and mark are does not matter
abbrev pub InstallsStand : Type 0
InstallsStand = (m : Machine) (s : ℕ) (t : Transaction) (view : View) (table : ℕ) (key : List ℕ) (u : Update) (chain : List Update) (cell : Option (Version Change)) (records : List (Version Change))
    → Valid m → transaction_of m s ≡ Some t → Allowed m (AcceptWrite s table key u.version.change) → ViewStands m t view → may_follow_front view chain ≡ true → u.version.window.name ≡ name_of m t
    → StandsFor m table key chain cell records → StandsFor (after m (AcceptWrite s table key u.version.change)) table key (installed u chain) cell records

-- a mark or stamps of a running transaction's update, before its prepare or commit
abbrev pub MarksStand : Type 0
MarksStand = (m : Machine) (s : ℕ) (t : Transaction) (table : ℕ) (key : List ℕ) (chain : List Update) (cell : Option (Version Change)) (records : List (Version Change)) (prepare commit durable : ℕ)
    → Valid m → transaction_of m s ≡ Some t → t.phase ≡ Running → StandsFor m table key chain cell records
    → StandsFor m table key (front_changed (name_of m t) (marked prepare) chain) cell records × StandsFor m table key (front_changed (name_of m t) (stamped commit durable) chain) cell records

-- a prepare, where the newest update of a key that was written is marked with its stamp
abbrev pub PreparesStand : Type 0
PreparesStand = (m : Machine) (s stamp : ℕ) (t : Transaction) (table : ℕ) (key : List ℕ) (u : Update) (older : List Update) (cell : Option (Version Change)) (records : List (Version Change))
    → Valid m → Allowed m (PrepareAt s stamp) → Wrote m s table key t → u.prepared ≡ stamp
    → StandsFor m table key (u ∷ older) cell records → StandsFor (after m (PrepareAt s stamp)) table key (u ∷ older) cell records

-- the version that a commit at these stamps makes of a write
abbrev pub outcome : Machine → Transaction → Write → ℕ → ℕ → Version Change
outcome m t w commit durable = version_of (name_of m t) (record { table = w.table; key = w.key; change = w.change; commit = commit; durable = durable })

-- a commit, where the newest update of a key that was written is stamped
abbrev pub CommitsStand : Type 0
CommitsStand = (m : Machine) (s stamp : ℕ) (t : Transaction) (w : Write) (table : ℕ) (key : List ℕ) (older : List Update) (cell : Option (Version Change)) (records : List (Version Change))
    → Valid m → transaction_of m s ≡ Some t → t.phase ≡ Running → own_write t table key ≡ Some w
    → StandsFor m table key (unmarked_update (outcome m t w stamp stamp) ∷ older) cell records
    → StandsFor (after m (CommitAt s stamp stamp)) table key (unmarked_update (outcome m t w stamp stamp) ∷ older) cell records

-- the commit of a prepared transaction, with the chain as it is
abbrev pub ResolvesStand : Type 0
ResolvesStand = (m : Machine) (s stamp commit durable : ℕ) (t : Transaction) (table : ℕ) (key : List ℕ) (chain : List Update) (cell : Option (Version Change)) (records : List (Version Change))
    → Valid m → Allowed m (CommitAt s commit durable) → Wrote m s table key t → t.phase ≡ Prepared stamp
    → StandsFor m table key chain cell records → StandsFor (after m (CommitAt s commit durable)) table key chain cell records

-- the stamps of a resolving commit, whose version is in the line
abbrev pub StampsStand : Type 0
StampsStand = (m : Machine) (s : ℕ) (t : Transaction) (w : Write) (table : ℕ) (key : List ℕ) (chain : List Update) (cell : Option (Version Change)) (records : List (Version Change)) (commit durable : ℕ)
    → Valid m → transaction_of m s ≡ Some t → t.phase ≡ Resolving → own_write t table key ≡ Some w → Member (outcome m t w commit durable) (line m.history table key)
    → StandsFor m table key chain cell records → StandsFor m table key (front_changed (name_of m t) (stamped commit durable) chain) cell records

-- rolled back: no version of its name is in the line
abbrev pub IsUndone : Machine → Transaction → ℕ → List ℕ → Type 0
IsUndone m t table key = (t.phase ≡ Leaving) ⊎ ((t.phase ≡ Resolving) × NoneOf (name_of m t) (line m.history table key))

-- an undo
abbrev pub UndosStand : Type 0
UndosStand = (m : Machine) (s : ℕ) (t : Transaction) (table : ℕ) (key : List ℕ) (chain : List Update) (cell : Option (Version Change)) (records : List (Version Change))
    → Valid m → transaction_of m s ≡ Some t → IsUndone m t table key
    → StandsFor m table key chain cell records → StandsFor m table key (undone (name_of m t) chain) cell records

-- no update of the name is left on top, but a stamped one of who is resolving
abbrev pub NoneLeft : Phase → Name → List Update → Type 0
NoneLeft phase name [] = Unit {0}
NoneLeft Resolving name (u ∷ older) = u.version.window.name ≡ name → u.prepared ≡ 0
NoneLeft phase name (u ∷ older) = u.version.window.name ≡ name → ⊥

-- the end of a transaction
abbrev pub EndsStand : Type 0
EndsStand = (m : Machine) (s : ℕ) (t : Transaction) (table : ℕ) (key : List ℕ) (chain : List Update) (cell : Option (Version Change)) (records : List (Version Change))
    → Valid m → Allowed m (EndTransaction s) → transaction_of m s ≡ Some t → NoneLeft t.phase (name_of m t) chain
    → StandsFor m table key chain cell records → StandsFor (after m (EndTransaction s)) table key chain cell records

-- what is past goes on to be, so a trim may come later than the look at the pin and the floor
abbrev pub PastsGoOn : Type 0
PastsGoOn = (m : Machine) (event : Event) (table : ℕ) (key : List ℕ) (pin : ℕ) (floor : Name) → Valid m → Allowed m event → IsPast m table key pin floor → IsPast (after m event) table key pin floor

-- a trim
abbrev pub TrimsStand : Type 0
TrimsStand = (m : Machine) (table : ℕ) (key : List ℕ) (chain : List Update) (cell : Option (Version Change)) (records : List (Version Change)) (pin : ℕ) (floor : Name)
    → Valid m → IsPast m table key pin floor
    → StandsFor m table key chain cell records → StandsFor m table key (trimmed pin floor chain) cell records
