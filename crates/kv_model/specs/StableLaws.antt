-- What a rollback to stable leaves of a key, in a frame and in none.
use Rattle.std.specs.Prelude.{◌≡◌, ◌⊎◌, ◌≤◌, ℕ, Bool, true, List, [], map, filter, Option}
use Rattle.std.specs.Option.{option_to_list}
use Rattle.item.specs.declared.Change.{Change}
use Rattle.stamp.specs.declared.Version.{Version}
use Rattle.kv_model.specs.Holds.{Member, Picks}
use Rattle.kv_model.specs.Ordered.{Older}
use Rattle.kv_model.specs.History.{is_stable}
use Rattle.kv_model.specs.Machine.{Machine, RollbackToStable, after}
use Rattle.kv_model.specs.Allowed.{Allowed}
use Rattle.kv_model.specs.Captures.{In}
use Rattle.kv_model.specs.Pending.{Update, settled, KeyStands}
use Rattle.kv_model.specs.Reconciling.{held_in}
use Rattle.kv_model.specs.Marks.{Mark, MarkedStands, no_mark, rolled}
use Rattle.kv_model.specs.StoreLaws.{Held}
use Rattle.kv_model.specs.Valid.{Valid}

-- ---- a leaf in no frame: its mark is bounded, its cells stay

abbrev pub MarkedRollsBack : Type 0
MarkedRollsBack = (m : Machine) (table : ℕ) (key : List ℕ) (mark : Mark) (cell : Option (Version Change)) (records : List (Version Change))
    → Valid m → Allowed m RollbackToStable
    → MarkedStands m table key mark cell (Held records)
    → MarkedStands (after m RollbackToStable) table key (rolled m.stable mark) cell (Held (filter (is_stable m.stable) records))

-- one that was not marked gets a mark
abbrev pub LeafRollsBack : Type 0
LeafRollsBack = (m : Machine) (table : ℕ) (key : List ℕ) (cell : Option (Version Change)) (records : List (Version Change))
    → Valid m → Allowed m RollbackToStable
    → KeyStands m table key [] cell (Held records)
    → MarkedStands (after m RollbackToStable) table key (rolled m.stable no_mark) cell (Held (filter (is_stable m.stable) records))

-- one whose cells are all durable at the stable stamp needs none
abbrev pub CleanRollsBack : Type 0
CleanRollsBack = (m : Machine) (table : ℕ) (key : List ℕ) (durable : ℕ) (cell : Option (Version Change)) (records : List (Version Change))
    → Valid m → Allowed m RollbackToStable
    → durable ≤ m.stable → ((v : Version Change) → In cell v → v.window.durable ≤ durable)
    → KeyStands m table key [] cell (Held records)
    → KeyStands (after m RollbackToStable) table key [] cell (Held (filter (is_stable m.stable) records))

-- ---- a leaf in a frame

-- what stays of the chain and of the cell, in chain or cell; where that is nothing, the newest record that stays comes back
pub record RolledBack (keeps : Version Change → Bool) (chain : List Update) (cell : Option (Version Change)) (records : List (Version Change)) (later_chain : List Update) (later_cell : Option (Version Change)) : Type 0 where
  pub held : List (Version Change)
  pub plain : later_chain ≡ map settled held
  pub frame_is : (((v : Version Change) × Member v (held_in chain cell) × (keeps v ≡ true)) × (held_in later_chain later_cell ≡ filter keeps (held_in chain cell)))
      ⊎ (((v : Version Change) → Member v (held_in chain cell) → keeps v ≡ true → ⊥)
      × ((back : Option (Version Change)) × Picks Older (Held records) keeps back × (held_in later_chain later_cell ≡ option_to_list back)))

abbrev pub FrameRollsBack : Type 0
FrameRollsBack = (m : Machine) (table : ℕ) (key : List ℕ) (chain later_chain : List Update) (cell later_cell : Option (Version Change)) (records : List (Version Change))
    → Valid m → Allowed m RollbackToStable
    → RolledBack (is_stable m.stable) chain cell records later_chain later_cell
    → KeyStands m table key chain cell (Held records)
    → KeyStands (after m RollbackToStable) table key later_chain later_cell (Held (filter (is_stable m.stable) records))
