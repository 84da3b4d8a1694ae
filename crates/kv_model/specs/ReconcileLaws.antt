-- What an eviction, a load and a capture leave of a key that stands.
use Rattle.std.specs.Prelude.{◌≡◌, ℕ, Bool, true, List, [], ◌∷◌, ◌++◌, map, Option, Some, None}
use Rattle.std.specs.Option.{option_to_list}
use Rattle.item.specs.declared.Change.{Change}
use Rattle.stamp.specs.declared.Version.{Version}
use Rattle.kv_model.specs.Holds.{Member}
use Rattle.kv_model.specs.Ordered.{Older}
use Rattle.kv_model.specs.History.{line}
use Rattle.kv_model.specs.Machine.{Machine, Checkpoint, Event, CheckpointStart, after}
use Rattle.kv_model.specs.Allowed.{Allowed}
use Rattle.kv_model.specs.Captures.{ReconciledLists, is_in, CapturedIn}
use Rattle.kv_model.specs.Pending.{Update, settled, HasEnded, KeyStands}
use Rattle.kv_model.specs.Reconciling.{held_in, each_one, EndedWhere, PastCovers, LiesUnder, PrefixHasEnded}
use Rattle.kv_model.specs.StoreLaws.{Held}
use Rattle.kv_model.specs.Valid.{Valid}

-- an eviction of a key all of whose writers have ended: the newest version becomes the cell of a leaf in no frame
abbrev pub EvictionStands : Type 0
EvictionStands = (m : Machine) (table : ℕ) (key : List ℕ) (past : Version Change → Bool) (chain : List Update) (cell image : Option (Version Change)) (records moved : List (Version Change))
    → PastCovers m past (line m.history table key) → EndedWhere m each_one (held_in chain cell)
    → ReconciledLists Older each_one past (held_in chain cell) image moved
    → KeyStands m table key chain cell (Held records)
    → KeyStands m table key [] image (Held (moved ++ records))

-- it does not matter whether a frame holds a version in the chain or as the cell, where all its writers have ended
abbrev pub FramesAlike : Type 0
FramesAlike = (m : Machine) (table : ℕ) (key : List ℕ) (held later_held : List (Version Change)) (cell later_cell : Option (Version Change)) (records : List (Version Change))
    → EndedWhere m each_one (held ++ option_to_list cell) → later_held ++ option_to_list later_cell ≡ held ++ option_to_list cell
    → KeyStands m table key (map settled held) cell (Held records)
    → KeyStands m table key (map settled later_held) later_cell (Held records)

-- the cell stands as the last update of the chain
abbrev pub CellsAreUpdates : Type 0
CellsAreUpdates = (m : Machine) (table : ℕ) (key : List ℕ) (chain : List Update) (v : Version Change) (records : List (Version Change))
    → KeyStands m table key chain (Some v) (Held records)
    → KeyStands m table key (chain ++ settled v ∷ []) None (Held records)

-- and such an update as the cell, where it is not on top
abbrev pub UpdatesAreCells : Type 0
UpdatesAreCells = (m : Machine) (table : ℕ) (key : List ℕ) (chain : List Update) (v : Version Change) (records : List (Version Change))
    → (chain ≡ [] → HasEnded m v.window.name)
    → KeyStands m table key (chain ++ settled v ∷ []) None (Held records)
    → KeyStands m table key chain (Some v) (Held records)

-- a capture, which leaves the frame as it is; live: its transaction had ended when the leaf was looked up
abbrev pub CaptureStands : Type 0
CaptureStands = (m : Machine) (table : ℕ) (key : List ℕ) (live past : Version Change → Bool) (chain : List Update) (cell image : Option (Version Change)) (records moved : List (Version Change))
    → EndedWhere m live (held_in chain cell)
    → ReconciledLists Older live past (held_in chain cell) image moved
    → KeyStands m table key chain cell (Held records)
    → KeyStands m table key chain cell (Held (moved ++ records))

-- and what it makes holds for the running checkpoint, whose prefix had ended when the leaf was looked up
abbrev pub CaptureIsHeld : Type 0
CaptureIsHeld = (m : Machine) (c : Checkpoint) (table : ℕ) (key : List ℕ) (live past : Version Change → Bool) (chain : List Update) (cell image : Option (Version Change)) (records moved : List (Version Change))
    → Valid m → m.checkpoint ≡ Some c
    → ((v : Version Change) → Member v (line m.history table key) → is_in m.history c.prefix v ≡ true → live v ≡ true)
    → EndedWhere m live (held_in chain cell) → EndedWhere m live (line m.history table key) → LiesUnder live (held_in chain cell) records → PastCovers m past (line m.history table key)
    → ReconciledLists Older live past (held_in chain cell) image moved
    → KeyStands m table key chain cell (Held records)
    → CapturedIn m c table key image (Held (moved ++ records))

-- a leaf in no frame is captured as it lies on the device
abbrev pub LeafIsHeld : Type 0
LeafIsHeld = (m : Machine) (c : Checkpoint) (table : ℕ) (key : List ℕ) (cell : Option (Version Change)) (records : List (Version Change))
    → Valid m → m.checkpoint ≡ Some c
    → KeyStands m table key [] cell (Held records)
    → CapturedIn m c table key cell (Held records)

-- what the checkpoint holds of a key goes on to hold, at each event while it runs
abbrev pub CapturesGoOn : Type 0
CapturesGoOn = (m : Machine) (c : Checkpoint) (event : Event) (table : ℕ) (key : List ℕ) (image : Option (Version Change)) (records : List (Version Change))
    → Valid m → Allowed m event → m.checkpoint ≡ Some c
    → CapturedIn m c table key image (Held records)
    → CapturedIn (after m event) c table key image (Held records)

-- a checkpoint sees versions of ended transactions alone, from its start on
abbrev pub PrefixesBegin : Type 0
PrefixesBegin = (m : Machine) (c : Checkpoint) → Valid m → Allowed m CheckpointStart → (after m CheckpointStart).checkpoint ≡ Some c → PrefixHasEnded (after m CheckpointStart) c

abbrev pub PrefixesGoOn : Type 0
PrefixesGoOn = (m : Machine) (c : Checkpoint) (event : Event) → Valid m → Allowed m event → m.checkpoint ≡ Some c → PrefixHasEnded m c → PrefixHasEnded (after m event) c
