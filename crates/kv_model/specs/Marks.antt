-- Leaves in no frame whose cells an opening or a rollback to stable may hide: the mark of such a leaf, and a key of it.
use Rattle.std.specs.Prelude.{◌≡◌, ◌≤◌, ℕ, Bool, true, ◌&&◌, ◌||◌, ◌==◌, nat_lt, nat_le, List, Option, Some, None, if◌then◌else◌}
use Rattle.item.specs.declared.Change.{Change}
use Rattle.stamp.specs.declared.Name.{Name}
use Rattle.stamp.specs.declared.Version.{Version}
use Rattle.kv_model.specs.Holds.{Member, Stores}
use Rattle.kv_model.specs.Ordered.{Older, NameBelow}
use Rattle.kv_model.specs.History.{line, is_stable}
use Rattle.kv_model.specs.Machine.{Machine}
use Rattle.kv_model.specs.Droppable.{covers}
use Rattle.kv_model.specs.Captures.{UpTo, In}
use Rattle.kv_model.specs.CaptureLaws.{KeptOf}
use Rattle.kv_model.specs.Content.{Content, Snapshot, sees_name}
use Rattle.kv_model.specs.Pending.{NoneHolds, HasEnded}

-- what the record of an opening sees
pub record Filter : Type 0 where
  pub run : ℕ
  pub snapshot : Snapshot

-- filter: None, the leaf was written or loaded in this run; bound: what is kept is durable at this stamp, 0 is no bound
pub record Mark : Type 0 where
  pub filter : Option Filter
  pub bound : ℕ

-- the mark of a leaf none of whose cells is hidden
abbrev pub no_mark : Mark
no_mark = record { filter = None; bound = 0 }

-- the mark of an opening
abbrev pub recorded_mark : Content → Mark
recorded_mark c = record { filter = Some (record { run = c.run; snapshot = c.snapshot }); bound = c.stable }

abbrev pub lets_through : Option Filter → Name → Bool
lets_through None name = true
lets_through (Some f) name = sees_name f.run f.snapshot name

-- the cell is not hidden
abbrev pub keeps_cell : Mark → Version Change → Bool
keeps_cell mark v = lets_through mark.filter v.window.name && is_stable mark.bound v

-- after a rollback to this stable stamp: the first one that bounds the leaf is the least
abbrev pub rolled : ℕ → Mark → Mark
rolled stable mark = if mark.bound == 0 then record mark { bound = stable } else mark

-- a key of a leaf in no frame: what its mark keeps of the cell, and the history
pub record MarkedStands (m : Machine) (table : ℕ) (key : List ℕ) (mark : Mark) (cell : Option (Version Change)) (InHistory : Version Change → Type 0) : Type 0 where
  pub stores : Stores Older (covers m) (line m.history table key) (KeptOf (keeps_cell mark) (In cell)) InHistory
  -- the history is filtered already
  pub filtered : (v : Version Change) → InHistory v → keeps_cell mark v ≡ true
  -- each record has a cell at or above it, which may be hidden
  pub layered : (v : Version Change) → InHistory v → (w : Version Change) × In cell w × UpTo Older v w
  -- the transactions of the line have ended, and no other holds an update
  pub ended : (v : Version Change) → Member v (line m.history table key) → HasEnded m v.window.name
  pub free : NoneHolds m table key
  pub bound : mark.bound ≤ m.stable

-- ---- when a leaf needs no mark

abbrev pub NameUpTo : Name → Name → Type 0
NameUpTo x y = UpTo NameBelow x y

-- of an earlier run, or of an id below all that ran
abbrev pub is_below_filter : Option Filter → Name → Bool
is_below_filter None name = true
is_below_filter (Some f) name = nat_lt name.run f.run || ((name.run == f.run) && nat_lt name.id f.snapshot.min)

-- by the greatest name of its cells and the greatest durable stamp, the mark hides none of them
abbrev pub is_clean : Mark → Name → ℕ → Bool
is_clean mark name durable = is_below_filter mark.filter name && ((mark.bound == 0) || nat_le durable mark.bound)
