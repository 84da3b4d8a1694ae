-- What the finish of a checkpoint leaves.
use Rattle.std.specs.Prelude.{◌≡◌, ◌⊎◌, ℕ, ◌+◌, ◌*◌, ◌/◌, ◌≤◌, List, Option, Result, Ok, Err, IsTrue, drop, length}
use Rattle.disk_model.specs.Crash.{Each, Keeps, LeavesOnly}
use Rattle.disk_model.specs.Ranges.{range}
use Rattle.disk_model.specs.declared.disk.Disk.{Ghosts}
use Rattle.extent_list.specs.Space.{Space, Taken, HasNoRoom, end_of}
use Rattle.wt_code.specs.declared.store_error.StoreError.{StoreError}
use Rattle.wt_code.specs.declared.store_error.StoreError.TheVariants.{NoMemory, NoSpace, Read, Down}
use Rattle.device_layout.specs.declared.addr.Addr.{Addr}
use Rattle.device_layout.specs.declared.slot.Slot.{Slot}
use Rattle.turtle.specs.Slots.{IsNext}
use Rattle.block_mgr.specs.Cells.{AreUnits, cell_at, captured, freed, done}
use Rattle.block_mgr.specs.Blocks.{Books, Has, unit_of}
use Rattle.block_mgr.specs.Writes.{Added}
use Rattle.stored.specs.Stored.{Stored, IsOn}
use Rattle.checkpoint_core.specs.Stands.{HasStill, chosen_of, placed_at, Stands, IsReady, IsWritten}

-- an image from before, or one that has the old checkpoint
abbrev pub IsOld : (List ℕ → Type 0) → Option Stored → List ℕ → Type 0
IsOld images old c = images c ⊎ HasStill old c

-- or one that has the new checkpoint
abbrev pub IsEither : (List ℕ → Type 0) → Option Stored → Stored → List ℕ → Type 0
IsEither images old new c = IsOld images old c ⊎ IsOn c new

-- On an honest disk this holds of the checkpoint that stands and of the new one, of which all but the record is there and whose number is the next.
abbrev pub WhereReady : {D : Type 0} (g : Ghosts D) → Books → List ℕ → ℕ → D → (Option Stored → Stored → Type 0) → Type 0
WhereReady g books image sequence before P =
    IsTrue (g.honest before) → (old : Option Stored) (new : Stored) → Stands (g.seen before) (g.may_leave before) books old → IsReady (g.seen before) books image new
    → new.kept.sequence ≡ sequence → ((slot : Slot) → slot.sequence ≡ sequence → IsNext (chosen_of old) slot) → P old new

-- The same where the record is there too, and this slot names it.
abbrev pub WhereWritten : {D : Type 0} (g : Ghosts D) → Slot → D → (Option Stored → Stored → Type 0) → Type 0
WhereWritten g slot before P =
    IsTrue (g.honest before) → (old : Option Stored) (new : Stored) → IsWritten (g.seen before) (g.may_leave before) old new → new.slot ≡ slot → IsNext (chosen_of old) slot → P old new

-- the whole units of an image, in bytes
abbrev pub units_of : ℕ → ℕ
units_of n = (n + 4095) / 4096 * 4096

-- there was room for the record
abbrev pub HadRoom : Space → ℕ → ℕ → Type 0
HadRoom space n capacity = (after : Space) × (at : ℕ) × Taken space after (units_of n) capacity at

-- What an error leaves: the old checkpoint alone, but where a write or a sync failed, which may have been at the gate. NoSpace is told only where there was no room for the record.
abbrev pub Fails : {D : Type 0} (g : Ghosts D) → Space → ℕ → ℕ → Option Stored → Stored → D → D → StoreError → Type 0
Fails g space n capacity old new before after NoMemory = LeavesOnly g before after (IsOld (g.may_leave before) old)
Fails g space n capacity old new before after NoSpace = HasNoRoom space (units_of n) capacity × LeavesOnly g before after (IsOld (g.may_leave before) old)
Fails g space n capacity old new before after Read = LeavesOnly g before after (IsOld (g.may_leave before) old)
Fails g space n capacity old new before after (Down fault) =
    LeavesOnly g before after (IsOld (g.may_leave before) old)
    ⊎ ((a : Addr) × LeavesOnly g before after (IsEither (g.may_leave before) old (placed_at new a)))

-- At Ok each image has the new checkpoint, whose record stands at the address.
abbrev pub Finishes : {D : Type 0} (g : Ghosts D) → Space → ℕ → ℕ → Option Stored → Stored → D → D → Result Addr StoreError → Type 0
Finishes g space n capacity old new before after (Ok a) =
    LeavesOnly g before after (IsEither (g.may_leave before) old (placed_at new a)) × Each (g.may_leave after) (λ c. IsOn c (placed_at new a)) × HadRoom space n capacity
Finishes g space n capacity old new before after (Err e) = Fails g space n capacity old new before after e

-- what a finish leaves of the checkpoint of this number, whose record has this image
abbrev pub FinishesFor : {D : Type 0} (g : Ghosts D) → Books → List ℕ → ℕ → D → D → Result Addr StoreError → Type 0
FinishesFor g books image sequence before after result =
    WhereReady g books image sequence before (λ old new. Finishes g books.space (length image) (g.capacity before) old new before after result)

-- an image that has the old checkpoint, or the new one
abbrev pub HasOne : Option Stored → Stored → List ℕ → Type 0
HasOne old new c = HasStill old c ⊎ IsOn c new

-- what a sync or an install that failed leaves
abbrev pub InstallFails : {D : Type 0} (g : Ghosts D) → Option Stored → Stored → D → D → StoreError → Type 0
InstallFails g old new before after NoMemory = ⊥
InstallFails g old new before after NoSpace = ⊥
InstallFails g old new before after Read = LeavesOnly g before after (HasStill old)
InstallFails g old new before after (Down fault) = LeavesOnly g before after (HasStill old) ⊎ LeavesOnly g before after (HasOne old new)

-- what the sync and the install of the slot leave
abbrev pub Installs : {D : Type 0} (g : Ghosts D) → Option Stored → Stored → D → D → Result (Unit {0}) StoreError → Type 0
Installs g old new before after (Ok done) = LeavesOnly g before after (HasOne old new) × Each (g.may_leave after) (λ c. IsOn c new)
Installs g old new before after (Err e) = InstallFails g old new before after e

-- what is read once a slot was installed, or after an error that leaves the device up
abbrev pub ReadsThen : {D : Type 0} (g : Ghosts D) → Option Stored → Stored → D → D → Result (Unit {0}) StoreError → Type 0
ReadsThen g old new before after (Ok done) = IsOn (g.seen after) new × (length (g.seen after) ≡ length (g.seen before)) × (drop 8192 (g.seen after) ≡ drop 8192 (g.seen before))
ReadsThen g old new before after (Err (Down fault)) = Unit {0}
ReadsThen g old new before after (Err e) = (g.seen after ≡ g.seen before) × Each (g.may_leave after) (HasStill old)

-- The end of the space lies within the device. At Ok the new checkpoint is read, and after an error that leaves the device up the old one stands.
abbrev pub ReadsAfter : {D : Type 0} (g : Ghosts D) → Books → Option Stored → Stored → D → Result Addr StoreError → Type 0
ReadsAfter g books old new after (Ok a) = IsOn (g.seen after) (placed_at new a) × (end_of books.space ≤ length (g.seen after))
ReadsAfter g books old new after (Err (Down fault)) = Unit {0}
ReadsAfter g books old new after (Err e) = Stands (g.seen after) (g.may_leave after) books old × (end_of books.space ≤ length (g.seen after))

-- each of these parts is as it was, by place and length; of the slots nothing is said
pub record KeepsParts (kept : ℕ → ℕ → Type 0) (old new : List ℕ) : Type 0 where
  pub part : (at n : ℕ) → kept at n → at + n ≤ length old → range new at n ≡ range old at n
  pub no_shorter : length old ≤ length new

-- At Ok, and after an error that leaves the device up, each block in use is read as it was.
abbrev pub KeepsAfter : {D : Type 0} (g : Ghosts D) → Books → D → D → Result Addr StoreError → Type 0
KeepsAfter g books before after (Ok a) = KeepsParts (Has books.cells) (g.seen before) (g.seen after)
KeepsAfter g books before after (Err (Down fault)) = Unit {0}
KeepsAfter g books before after (Err e) = Keeps (Has books.cells) (g.seen before) (g.seen after)

-- the blocks are those from before, cell by cell
pub record AreBack (before after : Books) : Type 0 where
  pub cells : (u : ℕ) → cell_at after.cells u ≡ cell_at before.cells u
  pub units : AreUnits before.cells before.space → AreUnits after.cells after.space

-- The record is one of the last checkpoint's blocks, which are those that the running one had captured, and the live tree does not have it.
abbrev pub IsLastNow : Books → Books → Addr → Type 0
IsLastNow before after a = (mid : Books) × Added before mid a × (after.cells ≡ done (freed (captured mid.cells (unit_of a.offset)) (unit_of a.offset)))
