-- What it leaves that leaves are evicted between two calls, whoever is at work.
use Rattle.std.specs.Prelude.{◌≡◌, ◌⊎◌, ℕ, Bool, true, List, IsTrue}
use Rattle.failure.specs.Counts.{Rose}
use Rattle.failure.specs.declared.Fault.{Fault}
use Rattle.disk_model.specs.Crash.{SameDisk}
use Rattle.disk_model.specs.declared.disk.Disk.{Ghosts}
use Rattle.kv_model.specs.Machine.{Completed, GoDown, Machine, after as after_event}
use Rattle.row_page.specs.Rows.{Row}
use Rattle.engine_world.specs.Worlds.{World}
use Rattle.engine_store.specs.declared.store.Store.{Store}
use Rattle.engine_store.specs.Devices.{Installed, IsLater, KeepsCheckpoint, device_of}
use Rattle.engine_store.specs.Held.{IsHeld}
use Rattle.engine_store.specs.Relieves.{StaysAlike}

module _ {D : Type 0} (g : Ghosts D) (start_disk : D) (w : World) (first : Completed) (made : List Installed) (s s' : Store) (before after : D) where
  -- The machine is this one then. Nobody sees which leaves left their frames, but that calls which had found such a leaf may be told so. No checkpoint was installed.
  pub record RoomMade (next : Machine) : Type 0 where
    pub shelf : ℕ → List Row
    pub again : ℕ → Bool
    pub more : (session : ℕ) → w.again session ≡ true → again session ≡ true
    pub later : IsLater (device_of g before) (device_of g after)
    pub capacity : g.capacity after ≡ g.capacity before
    pub held : IsHeld g start_disk s' after (record w { machine = next; shelf = shelf; again = again }) first made

  -- the machine is the same, and the device has the checkpoint that it had
  pub record RoomUp : Type 0 where
    pub room : RoomMade w.machine
    pub keeps : KeepsCheckpoint (device_of g before) (device_of g after)

  -- a write or a sync failed, and the machine is down
  pub record RoomDown : Type 0 where
    pub fault : Fault
    pub rose : Rose (g.faults before) (g.faults after)
    pub room : RoomMade (after_event w.machine (GoDown fault))

  abbrev pub RoomOf : Type 0
  RoomOf = RoomUp ⊎ RoomDown

-- on an honest disk, of each world
abbrev pub MakesRoom : {D : Type 0} → Ghosts D → (s s' : Store) → (before after : D) → Type 0
MakesRoom {D} g s s' before after = IsTrue (g.honest before) → (start : D) (w : World) (first : Completed) (made : List Installed) → IsHeld g start s before w first made → RoomOf g start w first made s s' before after

-- whatever the disk
pub record RoomAlike {D : Type 0} (g : Ghosts D) (s s' : Store) (before after : D) : Type 0 where
  pub alike : StaysAlike s s'
  pub disk : SameDisk g before after
