-- What it leaves that leaves are written out of memory between two calls.
use Rattle.std.specs.Prelude.{◌≡◌, ◌⊎◌, ℕ, Bool, true, false, List, Some, Result, Ok, Err, IfErr, IsTrue}
use Rattle.failure.specs.Counts.{Rose}
use Rattle.failure.specs.declared.Fault.{Fault}
use Rattle.disk_model.specs.Crash.{SameDisk}
use Rattle.disk_model.specs.declared.disk.Disk.{Ghosts}
use Rattle.wt_code.specs.declared.refusals.Refusal.{Refusal}
use Rattle.wt_code.specs.declared.refusals.Refusal.TheVariants.{DiskFault, NoMemory, NoSpace, Panic}
use Rattle.kv_model.specs.Machine.{Completed, GoDown, Machine, after as after_event}
use Rattle.row_page.specs.Rows.{Row}
use Rattle.engine_world.specs.Worlds.{World}
use Rattle.engine.specs.Checkpoints.{MayStart}
use Rattle.engine_store.specs.declared.store.Store.{Store}
use Rattle.engine_store.specs.Devices.{Installed, IsLater, IsNumberOf, KeepsCheckpoint, device_of}
use Rattle.engine_store.specs.Held.{IsHeld}
use Rattle.engine_store.specs.Relieves.{StaysAlike}

-- memory or room is short: the leaf stays, and others are tried
abbrev pub is_short : Refusal → Bool
is_short NoMemory = true
is_short NoSpace = true
is_short _ = false

module _ {D : Type 0} (g : Ghosts D) (start_disk : D) (w : World) (first : Completed) (made : List Installed) (s s' : Store) (before after : D) where
  -- this is on the shelf then, and the machine is this one; no checkpoint was installed
  pub record WroteOn (shelf : ℕ → List Row) (next : Machine) : Type 0 where
    pub later : IsLater (device_of g before) (device_of g after)
    pub capacity : g.capacity after ≡ g.capacity before
    pub held : IsHeld g start_disk s' after (record w { machine = next; shelf = shelf }) first made

  -- the machine is the same, and the device has the checkpoint that it had
  pub record WroteUp : Type 0 where
    pub shelf : ℕ → List Row
    pub wrote : WroteOn shelf w.machine
    pub keeps : KeepsCheckpoint (device_of g before) (device_of g after)

  -- a write or a sync failed, and the machine is down
  pub record WroteDown (r : Refusal) : Type 0 where
    pub is : r ≡ DiskFault
    pub rose : Rose (g.faults before) (g.faults after)
    pub fault : Fault
    pub shelf : ℕ → List Row
    pub wrote : WroteOn shelf (after_event w.machine (GoDown fault))

  -- why no more leaves are tried, where the machine stays as it is: it was down, no checkpoint may start, or a read failed
  abbrev pub WhyNoMore : Refusal → Type 0
  WhyNoMore r =
      ((f : Fault) × (r ≡ Panic f) × (w.machine.fault ≡ Some f))
      ⊎ (((number : ℕ) × IsNumberOf (g.seen before) number × MayStart w.machine number (Err r))
      ⊎ ((r ≡ DiskFault) × Rose (g.faults before) (g.faults after)))

  abbrev pub WritesOut : Result (Unit {0}) Refusal → Type 0
  WritesOut (Ok done) = WroteUp
  WritesOut (Err r) = (WroteUp × WhyNoMore r) ⊎ WroteDown r

-- on an honest disk, of each world
abbrev pub WritesFrom : {D : Type 0} → Ghosts D → (s s' : Store) → (before after : D) → Result (Unit {0}) Refusal → Type 0
WritesFrom {D} g s s' before after result =
    IsTrue (g.honest before) → (start : D) (w : World) (first : Completed) (made : List Installed) → IsHeld g start s before w first made → WritesOut g start w first made s s' before after result

-- whatever the disk
pub record WritesAlike {D : Type 0} (g : Ghosts D) (s s' : Store) (before after : D) (result : Result (Unit {0}) Refusal) : Type 0 where
  pub alike : StaysAlike s s'
  pub fault : IfErr result (λ r. r ≡ DiskFault → Rose (g.faults before) (g.faults after))
  pub disk : SameDisk g before after
