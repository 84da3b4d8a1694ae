-- Why a droppable version is out of reach, and stays so.
use Rattle.std.specs.Prelude.{◌≡◌, ℕ, ◌≤◌, true, List, Some, find}
use Rattle.item.specs.declared.Change.{Change}
use Rattle.stamp.specs.declared.Version.{Version}
use Rattle.kv_model.specs.Holds.{Member}
use Rattle.kv_model.specs.History.{admits, line}
use Rattle.kv_model.specs.Machine.{Machine, Transaction, Event, transaction_of, after}
use Rattle.kv_model.specs.Droppable.{covers, pin, IsDroppable}
use Rattle.kv_model.specs.Allowed.{Allowed}
use Rattle.kv_model.specs.Valid.{Valid}

-- each transaction admits a version that covers
abbrev pub CoversAreAdmitted : Type 0
CoversAreAdmitted = (m : Machine) (s : ℕ) (t : Transaction) (v : Version Change) → transaction_of m s ≡ Some t → v.window.commit ≤ v.window.durable → covers m v ≡ true → admits m.history t.start t.read v ≡ true

-- no transaction's look-up in the line gives a droppable version
abbrev pub DroppablesAreNeverPicked : Type 0
DroppablesAreNeverPicked = (m : Machine) (s : ℕ) (t : Transaction) (table : ℕ) (key : List ℕ) (v : Version Change) → Valid m → transaction_of m s ≡ Some t → IsDroppable m table key v
    → find (admits m.history t.start t.read) (line m.history table key) ≡ Some v → ⊥

-- within a run the pin does not fall
abbrev pub PinDoesNotFall : Type 0
PinDoesNotFall = (m : Machine) (event : Event) → Allowed m event → pin m ≤ pin (after m event)

-- a version that covers goes on to cover
abbrev pub CoversGoOn : Type 0
CoversGoOn = (m : Machine) (event : Event) (table : ℕ) (key : List ℕ) (v : Version Change) → Valid m → Allowed m event → Member v (line m.history table key) → covers m v ≡ true → covers (after m event) v ≡ true
