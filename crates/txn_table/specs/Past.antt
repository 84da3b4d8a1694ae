-- What the pin stamp and the floor are good for.
use Rattle.std.specs.Prelude.{◌≡◌, ◌≤◌, ℕ, true, false, List, Option, Some, option_map}
use Rattle.item.specs.declared.Change.{Change}
use Rattle.stamp.specs.declared.Name.{Name}
use Rattle.stamp.specs.declared.Version.{Version}
use Rattle.kv_model.specs.Holds.{Member}
use Rattle.kv_model.specs.History.{line}
use Rattle.kv_model.specs.Machine.{Machine, Checkpoint}
use Rattle.kv_model.specs.Droppable.{covers}
use Rattle.kv_model.specs.Valid.{Valid}
use Rattle.snapshot.specs.Sight.{Sight}
use Rattle.snapshot.specs.Matters.{IsLive, SeesCommitted}
use Rattle.snapshot.specs.Past.{IsPast, is_below}
use Rattle.txn_table.specs.Tabled.{Table, floor_of, pin_of}
use Rattle.txn_table.specs.Stands.{TableStands}

-- where a checkpoint runs, its snapshot is the one that is given
abbrev pub SightStands : Machine → Option Sight → Type 0
SightStands m checkpoint = (k : Checkpoint) → m.checkpoint ≡ Some k → (c : Sight) × (checkpoint ≡ Some c) × SeesCommitted m k.prefix c

-- a version of a line that is durable at the pin stamp, and whose name is below the floor, covers what is older
abbrev pub ThePastCovers : Type 0
ThePastCovers = (t : Table) (m : Machine) (checkpoint : Option Sight) (table : ℕ) (key : List ℕ) (v : Version Change) → Valid m → TableStands t m → SightStands m checkpoint
    → Member v (line m.history table key) → v.window.durable ≤ pin_of t m.oldest (option_map (λ (c : Checkpoint). c.oldest) m.checkpoint) → is_below v.window.name (floor_of t checkpoint) ≡ true
    → covers m v ≡ true

-- no transaction that has not ended is below the floor
abbrev pub FloorsAreUnderTheLiving : Type 0
FloorsAreUnderTheLiving = (t : Table) (m : Machine) (checkpoint : Option Sight) (x : Name) → Valid m → TableStands t m → IsLive m x → is_below x (floor_of t checkpoint) ≡ false

-- so what a chain is trimmed by at the pin stamp and the floor is past
abbrev pub PastsStand : Type 0
PastsStand = (t : Table) (m : Machine) (checkpoint : Option Sight) (table : ℕ) (key : List ℕ) → Valid m → TableStands t m → SightStands m checkpoint
    → IsPast m table key (pin_of t m.oldest (option_map (λ (c : Checkpoint). c.oldest) m.checkpoint)) (floor_of t checkpoint)
