-- What a read in two moments answers.
use Rattle.std.specs.Prelude.{◌≡◌, ◌⊎◌, ℕ, List, Option, Some, option_and_then}
use Rattle.item.specs.declared.Change.{Change}
use Rattle.stamp.specs.declared.Version.{Version}
use Rattle.kv_model.specs.Holds.{Member, Picks}
use Rattle.kv_model.specs.Ordered.{Older}
use Rattle.kv_model.specs.History.{admits, first, line, put_of, value}
use Rattle.kv_model.specs.Machine.{Machine, Transaction, Event, transaction_of, after}
use Rattle.kv_model.specs.Allowed.{Allowed}
use Rattle.kv_model.specs.Pending.{Update, InFrame, KeyStands}
use Rattle.kv_model.specs.Closing.{after_all}
use Rattle.kv_model.specs.DecisionLaws.{EachMayCome}
use Rattle.kv_model.specs.Elsewhere.{AllOfOthers}
use Rattle.kv_model.specs.Passing.{Passes, StaysPinned}
use Rattle.kv_model.specs.StoreLaws.{Held}
use Rattle.kv_model.specs.Valid.{Valid}

-- a frame stays pinned at first
abbrev pub PinsBegin : Type 0
PinsBegin = (stands below held : List (Version Change)) (cell : Option (Version Change)) → StaysPinned below held cell stands below held cell

-- while a transaction is active a line loses nothing
abbrev pub LinesGrow : Type 0
LinesGrow = (m : Machine) (event : Event) (session : ℕ) (t : Transaction) (table : ℕ) (key : List ℕ) (v : Version Change) → Valid m → Allowed m event → transaction_of m session ≡ Some t
    → Member v (line m.history table key) → Member v (line (after m event).history table key)

-- so what stood when it began stands
abbrev pub SnapshotsStand : Type 0
SnapshotsStand = (m : Machine) (session : ℕ) (t : Transaction) (table : ℕ) (key : List ℕ) (v : Version Change) → Valid m → transaction_of m session ≡ Some t
    → Member v (line (first t.start m.history) table key) → Member v (line m.history table key)

-- and at each step: to the frame comes what stood above its versions or did not stand, and so for what stands above them
abbrev pub PinsGoOn : Type 0
PinsGoOn = (below held stands middle_below middle_held later_stands later_below later_held : List (Version Change)) (cell middle_cell later_cell : Option (Version Change))
    → ((v : Version Change) → Member v below → Member v stands)
    → StaysPinned below held cell stands middle_below middle_held middle_cell
    → ((v : Version Change) → InFrame later_held later_cell v → InFrame middle_held middle_cell v ⊎ (Member v stands → Member v middle_below → ⊥))
    → ((v : Version Change) → Member v later_stands → (Member v later_below → ⊥) → Member v stands → Member v middle_below → ⊥)
    → StaysPinned below held cell later_stands later_below later_held later_cell

-- what the history gives at the second moment is the value at the first
abbrev pub ReadsInTwoMoments : Type 0
ReadsInTwoMoments = (m : Machine) (events : List Event) (session : ℕ) (t : Transaction) (table : ℕ) (key : List ℕ)
    (chain later_chain : List Update) (cell later_cell : Option (Version Change)) (records later_records : List (Version Change)) (second : Option (Version Change))
    → Valid m → transaction_of m session ≡ Some t → EachMayCome m events → AllOfOthers session events
    → (before : KeyStands m table key chain cell (Held records)) → Passes m session t table key before.top before.held cell
    → (later : KeyStands (after_all m events) table key later_chain later_cell (Held later_records))
    → StaysPinned before.below before.held cell (line (after_all m events).history table key) later.below later.held later_cell
    → Picks Older (Held later_records) (admits (after_all m events).history t.start t.read) second
    → option_and_then (λ v. put_of v.change) second ≡ value m.history t.start t.read table key
