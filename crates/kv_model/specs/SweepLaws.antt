-- What a sweep of the history, and what is added to it, leave of a key.
use Rattle.std.specs.Prelude.{◌≡◌, ◌⊎◌, ℕ, Bool, true, false, List, ◌++◌, filter, Option, Some}
use Rattle.item.specs.declared.Change.{Change}
use Rattle.stamp.specs.declared.Version.{Version}
use Rattle.kv_model.specs.Holds.{Member}
use Rattle.kv_model.specs.Ordered.{Older}
use Rattle.kv_model.specs.History.{line}
use Rattle.kv_model.specs.Machine.{Machine, Checkpoint}
use Rattle.kv_model.specs.Captures.{CapturedIn, is_in}
use Rattle.kv_model.specs.Pending.{Update, KeyStands}
use Rattle.kv_model.specs.Reconciling.{held_in, EndedWhere, PastCovers, LiesUnder}
use Rattle.kv_model.specs.Marks.{Mark, MarkedStands}
use Rattle.kv_model.specs.StoreLaws.{Held}
use Rattle.kv_model.specs.Valid.{Valid}

-- each record that is lost lies below one that is past
pub record Swept (past : Version Change → Bool) (records later : List (Version Change)) : Type 0 where
  pub fewer : (v : Version Change) → Member v later → Member v records
  pub lost : (v : Version Change) → Member v records → Member v later ⊎ ((w : Version Change) × Member w records × Older v w × (past w ≡ true))

-- so it is with versions in hand, which a sweep does not reach
abbrev pub SweepsInHand : Type 0
SweepsInHand = (past : Version Change → Bool) (moved records later : List (Version Change)) → Swept past records later → Swept past (moved ++ records) (moved ++ later)

abbrev pub SweepsStand : Type 0
SweepsStand = (m : Machine) (table : ℕ) (key : List ℕ) (past : Version Change → Bool) (chain : List Update) (cell : Option (Version Change)) (records later : List (Version Change))
    → Valid m → PastCovers m past (line m.history table key) → Swept past records later
    → KeyStands m table key chain cell (Held records) → KeyStands m table key chain cell (Held later)

abbrev pub SweepsKeepMarked : Type 0
SweepsKeepMarked = (m : Machine) (table : ℕ) (key : List ℕ) (past : Version Change → Bool) (mark : Mark) (cell : Option (Version Change)) (records later : List (Version Change))
    → PastCovers m past (line m.history table key) → Swept past records later
    → MarkedStands m table key mark cell (Held records) → MarkedStands m table key mark cell (Held later)

abbrev pub SweepsKeepCaptured : Type 0
SweepsKeepCaptured = (m : Machine) (c : Checkpoint) (table : ℕ) (key : List ℕ) (past : Version Change → Bool) (image : Option (Version Change)) (records later : List (Version Change))
    → m.checkpoint ≡ Some c → PastCovers m past (line m.history table key) → Swept past records later
    → CapturedIn m c table key image (Held records) → CapturedIn m c table key image (Held later)

-- a set by names: what was there stays, and of what is moved each name is there
pub record Added (records moved later : List (Version Change)) : Type 0 where
  pub fewer : (v : Version Change) → Member v later → Member v (moved ++ records)
  pub old : (v : Version Change) → Member v records → Member v later
  pub new : (v : Version Change) → Member v moved → (w : Version Change) × Member w later × (w.window.name ≡ v.window.name)

-- so it holds what was moved, and the key stands
abbrev pub AddsStand : Type 0
AddsStand = (m : Machine) (table : ℕ) (key : List ℕ) (chain : List Update) (cell : Option (Version Change)) (records moved later : List (Version Change))
    → Valid m → Added records moved later
    → KeyStands m table key chain cell (Held (moved ++ records)) → KeyStands m table key chain cell (Held later)

-- and a capture whose moved versions were in hand holds with them
abbrev pub AddsHold : Type 0
AddsHold = (m : Machine) (c : Checkpoint) (table : ℕ) (key : List ℕ) (image : Option (Version Change)) (records moved later : List (Version Change))
    → Valid m → Added records moved later
    → CapturedIn m c table key image (Held (moved ++ records)) → CapturedIn m c table key image (Held later)

-- a capture goes on to hold, whatever versions of the line are added
abbrev pub AddsKeepCaptured : Type 0
AddsKeepCaptured = (m : Machine) (c : Checkpoint) (table : ℕ) (key : List ℕ) (image : Option (Version Change)) (records later : List (Version Change))
    → ((v : Version Change) → Member v records → Member v later) → ((v : Version Change) → Member v later → Member v (line m.history table key))
    → CapturedIn m c table key image (Held records) → CapturedIn m c table key image (Held later)

-- of a chain each update that is lost lies below one that stays and is past
pub record Trimmed (past : Version Change → Bool) (chain later : List Update) : Type 0 where
  pub keep : Update → Bool
  pub is_filter : later ≡ filter keep chain
  pub lost : (u : Update) → Member u chain → keep u ≡ false → (w : Update) × Member w chain × (keep w ≡ true) × Older u.version w.version × (past w.version ≡ true)

-- a key stands after a trim of its chain; what is past is of ended transactions
abbrev pub TrimsStand : Type 0
TrimsStand = (m : Machine) (table : ℕ) (key : List ℕ) (past : Version Change → Bool) (chain later : List Update) (cell : Option (Version Change)) (records : List (Version Change))
    → PastCovers m past (line m.history table key) → EndedWhere m past (held_in chain cell) → Trimmed past chain later
    → KeyStands m table key chain cell (Held records) → KeyStands m table key later cell (Held records)

-- while a checkpoint runs a trim leaves each record below one that had ended when the leaf was looked up
abbrev pub TrimsLieUnder : Type 0
TrimsLieUnder = (m : Machine) (c : Checkpoint) (table : ℕ) (key : List ℕ) (live past : Version Change → Bool) (chain later : List Update) (cell : Option (Version Change)) (records : List (Version Change))
    → m.checkpoint ≡ Some c → ((v : Version Change) → Member v (line m.history table key) → is_in m.history c.prefix v ≡ true → live v ≡ true)
    → PastCovers m past (line m.history table key) → EndedWhere m past (held_in chain cell) → Trimmed past chain later
    → KeyStands m table key chain cell (Held records) → LiesUnder live (held_in chain cell) records → LiesUnder live (held_in later cell) records
