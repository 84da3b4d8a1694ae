-- The two slots of a device, at 0 and at 4,096, the chosen one, and what an install leaves.
use Rattle.std.specs.Prelude.{◌≡◌, ◌≢◌, ◌⊎◌, ℕ, ◌+◌, ◌-◌, ◌<◌, ◌≤◌, ◌^◌, List, [], ◌∷◌, ◌++◌, length, take, drop, Bool, IsTrue, codes, Option, Some, None}
use Rattle.std.specs.Int.{to_le_bytes, from_le_bytes, w32, w64}
use Rattle.failure.specs.declared.Fault.{Fault}
use Rattle.failure.specs.declared.Fault.TheVariants.{Write, Sync}
use Rattle.disk_model.specs.declared.disk.Disk.{Ghosts}
use Rattle.disk_model.specs.Disk.{Only}
use Rattle.disk_model.specs.Ranges.{range}
use Rattle.disk_model.specs.Crash.{Each, LeavesOnly}
use Rattle.disk_model.specs.Steps.{OneWrite}
use Rattle.device_layout.specs.declared.slot.Slot.{Slot}
use Rattle.wt_code.specs.declared.refusals.Refusal.{Refusal}
use Rattle.wt_code.specs.declared.refusals.Refusal.TheVariants.{Corrupt, DiskFault}

-- what stands behind the gate: seven letters, version 1, and the fields
abbrev pub slot_image : Slot → List ℕ
slot_image s = codes "WTTURTL" ++ to_le_bytes w32 1 ++ to_le_bytes w64 s.sequence ++ to_le_bytes w64 s.offset ++ to_le_bytes w32 s.size ++ to_le_bytes w32 s.sum

-- the fields that stand behind the letters and the version
abbrev pub fields_of : List ℕ → Slot
fields_of body = record { sequence = from_le_bytes w64 (range body 11 8); offset = from_le_bytes w64 (range body 19 8); size = from_le_bytes w32 (range body 27 4); sum = from_le_bytes w32 (range body 31 4) }

abbrev pub IsSequence : ℕ → Type 0
IsSequence n = (1 ≤ n) × (n < 2 ^ 62)

-- each field fits its place
pub record IsSlot (slot : Slot) : Type 0 where
  pub sequence : IsSequence slot.sequence
  pub offset : slot.offset < 2 ^ 64
  pub size : slot.size < 2 ^ 32
  pub sum : slot.sum < 2 ^ 32

abbrev pub IsOpen : List ℕ → ℕ → Type 0
IsOpen bytes at = range bytes at 1 ≡ 165 ∷ []

abbrev pub IsShut : List ℕ → ℕ → Type 0
IsShut bytes at = range bytes at 1 ≢ (165 ∷ [])

abbrev pub sequence_at : List ℕ → ℕ → ℕ
sequence_at bytes at = from_le_bytes w64 (range bytes (at + 12) 8)

-- an open slot at a place
pub record HasSlot (bytes : List ℕ) (at : ℕ) (slot : Slot) : Type 0 where
  pub gate : IsOpen bytes at
  pub fields : range bytes (at + 1) 35 ≡ slot_image slot
  pub is : IsSlot slot

-- the slot at a place, none where its gate is shut
abbrev pub StandsAt : List ℕ → ℕ → Option Slot → Type 0
StandsAt bytes at None = IsShut bytes at
StandsAt bytes at (Some slot) = HasSlot bytes at slot

-- an open gate before what is no slot
abbrev pub IsOutOfForm : List ℕ → ℕ → Type 0
IsOutOfForm bytes at = IsOpen bytes at × ((slot : Slot) → HasSlot bytes at slot → ⊥)

abbrev pub HaveOneSequence : Option Slot → Option Slot → Type 0
HaveOneSequence (Some a) (Some b) = a.sequence ≡ b.sequence
HaveOneSequence (Some a) None = ⊥
HaveOneSequence None second = ⊥

-- the slot at 4,096 is out of form, or has the other's sequence
abbrev pub IsSecondCorrupt : List ℕ → Type 0
IsSecondCorrupt bytes = (first : Option Slot) × StandsAt bytes 0 first × (IsOutOfForm bytes 4096 ⊎ ((second : Option Slot) × StandsAt bytes 4096 second × HaveOneSequence first second))

-- the first place at which a device's slots are at fault
abbrev pub IsCorruptAt : List ℕ → ℕ → Type 0
IsCorruptAt bytes at = ((at ≡ 0) × (length bytes < 8192)) ⊎ (((at ≡ 0) × (8192 ≤ length bytes) × IsOutOfForm bytes 0) ⊎ ((at ≡ 4096) × (8192 ≤ length bytes) × IsSecondCorrupt bytes))

-- why a device's slots are refused
abbrev pub RefusesSlots : List ℕ → Refusal → Type 0
RefusesSlots bytes r = (r ≡ DiskFault) ⊎ ((at : ℕ) × IsCorruptAt bytes at × (r ≡ Corrupt at 0 0))

-- why the slot at a place is refused: a fault of the disk, or it is known to be out of form
abbrev pub RefusesSlot : (fault known : Type 0) → List ℕ → ℕ → Refusal → Type 0
RefusesSlot fault known bytes at r = ((r ≡ DiskFault) × fault) ⊎ ((r ≡ Corrupt at 0 0) × (known → IsOutOfForm bytes at))

abbrev pub IsBelow : Option Slot → Slot → Type 0
IsBelow None slot = Unit {0}
IsBelow (Some other) slot = other.sequence < slot.sequence

-- of two slots that are open, the one with the greater sequence
abbrev pub IsNewer : Option Slot → Option Slot → Option Slot → Type 0
IsNewer first second None = (first ≡ None) × (second ≡ None)
IsNewer first second (Some slot) = ((first ≡ Some slot) × IsBelow second slot) ⊎ ((second ≡ Some slot) × IsBelow first slot)

-- an open slot at one place, and at the other none, or one with a lesser sequence
abbrev pub ChosenAt : List ℕ → ℕ → Slot → Type 0
ChosenAt bytes at slot = HasSlot bytes at slot × (IsShut bytes (4096 - at) ⊎ ((s : Slot) × HasSlot bytes (4096 - at) s × (s.sequence < slot.sequence)))

abbrev pub Chooses : List ℕ → Option Slot → Type 0
Chooses bytes None = IsShut bytes 0 × IsShut bytes 4096
Chooses bytes (Some slot) = ChosenAt bytes 0 slot ⊎ ChosenAt bytes 4096 slot

abbrev pub IsPlace : ℕ → Type 0
IsPlace at = (at ≡ 0) ⊎ (at ≡ 4096)

-- the place for the next slot
abbrev pub IsTarget : List ℕ → Option Slot → ℕ → Type 0
IsTarget bytes None at = Chooses bytes None → at ≡ 0
IsTarget bytes (Some slot) at = Chooses bytes (Some slot) → ChosenAt bytes (4096 - at) slot

abbrev pub IsNext : Option Slot → Slot → Type 0
IsNext None new = new.sequence ≡ 1
IsNext (Some old) new = new.sequence ≡ old.sequence + 1

-- each image has the slots that a read gives, they choose this one, and the new one has the next sequence
pub record Before (seen : List ℕ) (images : List ℕ → Type 0) (chosen : Option Slot) (slot : Slot) : Type 0 where
  pub each : Each images (λ c. (8192 ≤ length c) × (take 8192 c ≡ take 8192 seen))
  pub chooses : Chooses seen chosen
  pub next : IsNext chosen slot
  pub small : slot.sequence < 2 ^ 62

-- On an honest disk that stands so, this holds of the slot that is chosen there.
abbrev pub WhereReady : {D : Type 0} → Ghosts D → D → Slot → (Option Slot → Type 0) → Type 0
WhereReady g old slot P = IsTrue (g.honest old) → (chosen : Option Slot) → Before (g.seen old) (g.may_leave old) chosen slot → P chosen

-- all behind the slots is that of an image from before
abbrev pub Behind : (List ℕ → Type 0) → List ℕ → Type 0
Behind images c = (d : List ℕ) × images d × (8192 ≤ length c) × (drop 8192 c ≡ drop 8192 d)

abbrev pub LeftOld : (List ℕ → Type 0) → Option Slot → List ℕ → Type 0
LeftOld images chosen c = Behind images c × Chooses c chosen

abbrev pub LeftEither : (List ℕ → Type 0) → Option Slot → Slot → List ℕ → Type 0
LeftEither images chosen slot c = Behind images c × (Chooses c chosen ⊎ Chooses c (Some slot))

-- the body of a slot stands at one of the two places
abbrev pub HasBody : List ℕ → Slot → Type 0
HasBody c slot = (at : ℕ) × IsPlace at × (range c (at + 1) 35 ≡ slot_image slot)

-- all is on the disk but, it may be, the gate
abbrev pub AtGate : (List ℕ → Type 0) → Option Slot → Slot → List ℕ → Type 0
AtGate images chosen slot c = LeftEither images chosen slot c × HasBody c slot

-- the new slot is chosen, on the disk, and all behind the slots is as it was
pub record Installed (seen : List ℕ) (slot : Slot) (new : List ℕ) (images : List ℕ → Type 0) : Type 0 where
  pub only : Only new images
  pub chooses : Chooses new (Some slot)
  pub behind : drop 8192 new ≡ drop 8192 seen
  pub long : 8192 ≤ length new

-- a write that may have been cut short, where there was one
abbrev pub MaybeWrite : Bool → ℕ → ℕ → (List ℕ → Type 0) → List ℕ → Type 0
MaybeWrite done at n images c = images c ⊎ (IsTrue done × OneWrite at n images c)

-- the slot stands in the place that was not chosen, in slot A where none was
abbrev pub StandsInPlace : List ℕ → Option Slot → Slot → List ℕ → Type 0
StandsInPlace seen chosen slot new = (at : ℕ) × IsPlace at × IsTarget seen chosen at × HasSlot new at slot

-- ---- what failed

-- the write at this offset, or a sync
abbrev pub FailsAt : ℕ → Fault → Type 0
FailsAt at (Write offset) = offset ≡ at
FailsAt at Sync = Unit {0}

-- The gate was being shut or the body written, and a crash at any moment leaves the old slot alone.
abbrev pub StoppedBefore : {D : Type 0} → Ghosts D → ℕ → Option Slot → D → D → Fault → Type 0
StoppedBefore g at chosen old new fault = (FailsAt at fault ⊎ FailsAt (at + 1) fault) × LeavesOnly g old new (LeftOld (g.may_leave old) chosen)

-- The gate was being opened, and the body is on the disk.
abbrev pub StoppedAtGate : {D : Type 0} → Ghosts D → ℕ → Option Slot → Slot → D → D → Fault → Type 0
StoppedAtGate g at chosen slot old new fault = FailsAt at fault × Each (g.may_leave new) (AtGate (g.may_leave old) chosen slot)

-- A write or a sync failed, in the place that is not chosen: before its gate was being opened, or at the gate.
abbrev pub Stopped : {D : Type 0} → Ghosts D → Option Slot → Slot → D → D → Fault → Type 0
Stopped g chosen slot old new fault =
    (at : ℕ) × IsPlace at × IsTarget (g.seen old) chosen at × (StoppedBefore g at chosen old new fault ⊎ StoppedAtGate g at chosen slot old new fault)
