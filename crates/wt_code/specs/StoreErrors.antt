-- Errors of storing: what holds at each, and the refusal that tells of it.
use Rattle.failure.specs.declared.Fault.{Fault}
use Rattle.wt_code.specs.declared.store_error.StoreError.{StoreError}
use Rattle.wt_code.specs.declared.store_error.StoreError.TheVariants.{NoMemory, NoSpace, Read, Down}
use Rattle.wt_code.specs.declared.refusals.Refusal.{Refusal}
use Rattle.wt_code.specs.declared.refusals.Refusal.TheVariants.{NoMemory as WantOfMemory, NoSpace as WantOfSpace, DiskFault}

-- which of the calls of the disk failed is not told
abbrev pub refusal_of : StoreError → Refusal
refusal_of NoMemory = WantOfMemory
refusal_of NoSpace = WantOfSpace
refusal_of Read = DiskFault
refusal_of (Down fault) = DiskFault

-- a fact where there was not enough memory
abbrev pub OnNoMemory : StoreError → Type 0 → Type 0
OnNoMemory NoMemory P = P
OnNoMemory NoSpace P = Unit {0}
OnNoMemory Read P = Unit {0}
OnNoMemory (Down fault) P = Unit {0}

-- a fact where there was no room
abbrev pub OnNoSpace : StoreError → Type 0 → Type 0
OnNoSpace NoMemory P = Unit {0}
OnNoSpace NoSpace P = P
OnNoSpace Read P = Unit {0}
OnNoSpace (Down fault) P = Unit {0}

-- a fact where a read failed
abbrev pub OnRead : StoreError → Type 0 → Type 0
OnRead NoMemory P = Unit {0}
OnRead NoSpace P = Unit {0}
OnRead Read P = P
OnRead (Down fault) P = Unit {0}

-- a fact of the write or sync that failed
abbrev pub IfDown : StoreError → (Fault → Type 0) → Type 0
IfDown NoMemory P = Unit {0}
IfDown NoSpace P = Unit {0}
IfDown Read P = Unit {0}
IfDown (Down fault) P = P fault

-- a call of the disk failed: it was neither want of memory nor of room
abbrev pub IsOfDisk : StoreError → Type 0
IsOfDisk NoMemory = ⊥
IsOfDisk NoSpace = ⊥
IsOfDisk Read = Unit {0}
IsOfDisk (Down fault) = Unit {0}
