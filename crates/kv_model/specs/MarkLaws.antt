-- What is true of marked leaves, and what a load makes of them.
use Rattle.std.specs.Prelude.{◌≡◌, ◌≤◌, ℕ, true, false, List, [], Option, None}
use Rattle.item.specs.declared.Change.{Change}
use Rattle.stamp.specs.declared.Name.{Name}
use Rattle.stamp.specs.declared.Version.{Version}
use Rattle.kv_model.specs.Ordered.{Older}
use Rattle.kv_model.specs.History.{tables, has_table}
use Rattle.kv_model.specs.Machine.{Machine, Event, after}
use Rattle.kv_model.specs.Allowed.{Allowed}
use Rattle.kv_model.specs.Captures.{In, Cleaned}
use Rattle.kv_model.specs.Pending.{Update, KeyStands}
use Rattle.kv_model.specs.Reconciling.{held_in, each_one, EndedWhere}
use Rattle.kv_model.specs.Elsewhere.{IsElsewhere, TouchesNone}
use Rattle.kv_model.specs.Marks.{Mark, MarkedStands, keeps_cell, is_clean, NameUpTo}
use Rattle.kv_model.specs.StoreLaws.{Held}
use Rattle.kv_model.specs.Valid.{Valid}

-- a key of a marked leaf goes on to stand, at each event but a rollback to stable; a write of it needs a frame
abbrev pub MarksGoOn : Type 0
MarksGoOn = (m : Machine) (event : Event) (table : ℕ) (key : List ℕ) (mark : Mark) (cell : Option (Version Change)) (records : List (Version Change))
    → Valid m → Allowed m event → IsElsewhere table key event
    → MarkedStands m table key mark cell (Held records) → MarkedStands (after m event) table key mark cell (Held records)

-- so does one of a leaf in no frame that is not marked
abbrev pub LeavesGoOn : Type 0
LeavesGoOn = (m : Machine) (event : Event) (table : ℕ) (key : List ℕ) (cell : Option (Version Change)) (records : List (Version Change))
    → Valid m → Allowed m event → IsElsewhere table key event
    → KeyStands m table key [] cell (Held records) → KeyStands (after m event) table key [] cell (Held records)

-- and one of a frame, at each event of others that is no write of it
abbrev pub KeysGoOn : Type 0
KeysGoOn = (m : Machine) (event : Event) (table : ℕ) (key : List ℕ) (chain : List Update) (cell : Option (Version Change)) (records : List (Version Change))
    → Valid m → Allowed m event → IsElsewhere table key event → TouchesNone m chain event
    → KeyStands m table key chain cell (Held records)
    → KeyStands (after m event) table key chain cell (Held records)

-- and one of a frame, all of whose writers have ended
abbrev pub FramesGoOn : Type 0
FramesGoOn = (m : Machine) (event : Event) (table : ℕ) (key : List ℕ) (chain : List Update) (cell : Option (Version Change)) (records : List (Version Change))
    → Valid m → Allowed m event → IsElsewhere table key event → EndedWhere m each_one (held_in chain cell)
    → KeyStands m table key chain cell (Held records)
    → KeyStands (after m event) table key chain cell (Held records) × EndedWhere (after m event) each_one (held_in chain cell)

-- a key of a table that is not there stands, with nothing
abbrev pub AbsentStands : Type 0
AbsentStands = (m : Machine) (table : ℕ) (key : List ℕ) → Valid m → has_table (tables m.history) table ≡ false → KeyStands m table key [] None (Held [])

-- a load cleans the cell, and the key stands in a frame
abbrev pub MarkedLoads : Type 0
MarkedLoads = (m : Machine) (table : ℕ) (key : List ℕ) (mark : Mark) (cell loaded : Option (Version Change)) (records : List (Version Change))
    → Cleaned Older (keeps_cell mark) cell (Held records) loaded
    → MarkedStands m table key mark cell (Held records) → KeyStands m table key [] loaded (Held records)

-- a cell up to the greatest name and durable stamp of a clean leaf is kept
abbrev pub CleanKeeps : Type 0
CleanKeeps = (mark : Mark) (name : Name) (durable : ℕ) (v : Version Change) → is_clean mark name durable ≡ true
    → NameUpTo v.window.name name → v.window.durable ≤ durable → keeps_cell mark v ≡ true

-- so the keys of a clean leaf stand as they are, without a mark
abbrev pub CleanStands : Type 0
CleanStands = (m : Machine) (table : ℕ) (key : List ℕ) (mark : Mark) (name : Name) (durable : ℕ) (cell : Option (Version Change)) (records : List (Version Change))
    → is_clean mark name durable ≡ true → ((v : Version Change) → In cell v → NameUpTo v.window.name name) → ((v : Version Change) → In cell v → v.window.durable ≤ durable)
    → MarkedStands m table key mark cell (Held records) → KeyStands m table key [] cell (Held records)
