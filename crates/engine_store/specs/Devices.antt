-- Devices at the points of a run, and the checkpoints that calls install on them.
use Rattle.std.specs.Prelude.{◌≡◌, ◌⊎◌, ℕ, ◌+◌, ◌-◌, ◌^◌, ◌≤◌, List, [], ◌∷◌, ◌++◌, length, reverse, Option, Some, None}
use Rattle.limits.specs.declared.TheConstants.{TABLES_MAX}
use Rattle.failure.specs.Counts.{Rose}
use Rattle.disk_model.specs.declared.disk.Disk.{Ghosts}
use Rattle.wt_code.specs.declared.refusals.Refusal.{Refusal}
use Rattle.device_layout.specs.declared.slot.Slot.{Slot}
use Rattle.turtle.specs.Slots.{Chooses}
use Rattle.kv_model.specs.Machine.{Machine, Completed}
use Rattle.kv_model.specs.Outside.{Storing, Stored, NoPlace, ReadFailed, Damaged, WriteFailed}
use Rattle.stored.specs.Stored.{Stored as OnDevice, IsOn, IsBlank}
use Rattle.checkpoint_core.specs.Stands.{HasStill}
use Rattle.kv_model.specs.History.{tables}
use Rattle.row_page.specs.Rows.{Row}
use Rattle.tree_dir.specs.declared.leaf.Leaf.{Leaf}
use Rattle.tree_dir.specs.Leaves.{Directory}
use Rattle.tree_open.specs.declared.place.TreePlace.{TreePlace}
use Rattle.engine_world.specs.Leaves.{TablesBegun}
use Rattle.ckpt_step.specs.declared.lives.Lone.{Lone}
use Rattle.ckpt_step.specs.Floors.{AreOnDevice}
use Rattle.ckpt_step.specs.Grounds.{AreLedTo, AreRoots, AreSince}
use Rattle.ckpt_step.specs.Rooms.{Written}
use Rattle.ckpt_step.specs.Takes.{HadRoomFor, IsTooFullFor}

-- a device at a point of a run: what a read gives, how much it may hold, how often it has failed, and its moment
pub record Device : Type 0 where
  pub seen : List ℕ
  pub capacity : ℕ
  pub faults : ℕ
  pub moment : ℕ

abbrev pub device_of : {D : Type 0} → Ghosts D → D → Device
device_of g disk = record { seen = g.seen disk; capacity = g.capacity disk; faults = g.faults disk; moment = g.moment disk }

-- no count falls, and no moment comes back
pub record IsLater (old new : Device) : Type 0 where
  pub faults : old.faults ≤ new.faults
  pub moment : old.moment ≤ new.moment

-- The device was looked at alone.
pub record IsRead (old new : Device) : Type 0 where
  pub later : IsLater old new
  pub seen : new.seen ≡ old.seen
  pub capacity : new.capacity ≡ old.capacity

-- The device has the checkpoint that it had, and as much room: any call leaves it so but one that takes a checkpoint.
pub record KeepsCheckpoint (old new : Device) : Type 0 where
  pub capacity : new.capacity ≡ old.capacity
  pub checkpoint : (s : Option OnDevice) → HasStill s old.seen → HasStill s new.seen

-- A checkpoint that a call installed, or was installing when a fault at its gate stopped it: with what the call answered (None: done), and the moment of that answer.
pub record Installed : Type 0 where
  pub checkpoint : Completed
  pub refused : Option Refusal
  pub at : ℕ

-- the same once a call installed this one, or was installing it
abbrev pub opening_with : List Completed → Completed → Option Refusal → List Completed
opening_with these checkpoint None = checkpoint ∷ []
opening_with these checkpoint (Some r) = these ++ checkpoint ∷ []

-- To which checkpoints a device may open that could open to these, once calls installed those: to the last one that was done, and to any that a fault at its gate stopped since.
abbrev pub may_open_to : List Completed → List Installed → List Completed
may_open_to these [] = these
may_open_to these (i ∷ made) = may_open_to (opening_with these i.checkpoint i.refused) made

-- ---- what lies outside

-- the greatest run, and the greatest number of a checkpoint
abbrev pub last_number : ℕ
last_number = 2 ^ 62 - 1

-- the device's last completed checkpoint has this number
abbrev pub IsNumberOf : List ℕ → ℕ → Type 0
IsNumberOf bytes n = (IsBlank bytes × (n ≡ 0)) ⊎ ((slot : Slot) × Chooses bytes (Some slot) × (slot.sequence ≡ n))

-- its next number leaves none for as many tables as an engine may have
abbrev pub IsUsedUp : List ℕ → Type 0
IsUsedUp bytes = (s : OnDevice) × IsOn bytes s × (2 ^ 32 + length s.kept.tables ≤ s.kept.next_table + TABLES_MAX)

-- Leaves of a directory by which the machine's tables are parted, and by which the trees of the device's checkpoint are: of each what that checkpoint has, but of those that were written since, each with some rows, in a block that the checkpoint has not. Of these there are no others than such leaves (led), and the device has the rows of each (on).
pub record ArePartedOn (bytes : List ℕ) (m : Machine) (lives : List Lone) (leaves : List Leaf) (written : Written) : Type 0 where
  pub old : Option OnDevice
  pub has : HasStill old bytes
  pub places : List TreePlace
  pub roots : AreRoots (reverse (tables m.history)) lives leaves written places old
  pub begun : TablesBegun (reverse (tables m.history)) leaves
  pub dir : Directory
  pub leaves_are : dir.leaves ≡ leaves
  pub since : AreSince old lives dir written
  pub led : AreLedTo (reverse (tables m.history)) lives leaves
  pub shelf : ℕ → List Row
  pub on : AreOnDevice bytes lives leaves shelf

-- how a device takes the blocks of a checkpoint, beside those of these leaves, which were written since the last one: each has a place, or one of them finds none
abbrev pub MayTakeAt : List Lone → Device → Device → Machine → Storing → Type 0
MayTakeAt lives old new m Stored = (leaves : List Leaf) × (written : Written) × ArePartedOn old.seen m lives leaves written × HadRoomFor old.seen old.capacity lives leaves written m
MayTakeAt lives old new m NoPlace = (leaves : List Leaf) × (written : Written) × ArePartedOn old.seen m lives leaves written × IsTooFullFor old.seen old.capacity lives leaves written m
MayTakeAt lives old new m ReadFailed = Rose old.faults new.faults
MayTakeAt lives old new m (Damaged offset want found) = ⊥
MayTakeAt lives old new m (WriteFailed fault) = Rose old.faults new.faults
