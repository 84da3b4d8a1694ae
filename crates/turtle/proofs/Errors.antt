-- What is known of an error, by its kind.
use Rattle.std.specs.Prelude.{◌≡◌, ◌⊎◌, ℕ, ◌+◌, Option}
use Rattle.std.proofs.Common.{sym, subst, inl, inr}
use Rattle.failure.specs.declared.Fault.{Fault}
use Rattle.wt_code.specs.declared.store_error.StoreError.{StoreError}
use Rattle.wt_code.specs.declared.store_error.StoreError.TheVariants.{NoMemory, NoSpace, Read, Down}
use Rattle.wt_code.specs.StoreErrors.{IsOfDisk, OnRead, IfDown}
use Rattle.disk_model.specs.declared.disk.Disk.{Ghosts}
use Rattle.disk_model.specs.Crash.{LeavesOnly, Each}
use Rattle.device_layout.specs.declared.slot.Slot.{Slot}
use Rattle.turtle.specs.Slots.{IsPlace, IsTarget, LeftOld, AtGate, FailsAt, Stopped}

pub read_is : (e : StoreError) (P : Type 0) → P → OnRead e P
read_is NoMemory P p = tt
read_is NoSpace P p = tt
read_is Read P p = p
read_is (Down fault) P p = tt

pub read_not_down : (e : StoreError) (P : Fault → Type 0) → e ≡ Read → IfDown e P
read_not_down e P is = subst (λ (x : StoreError). IfDown x P) (sym is) tt

pub read_of_disk : (e : StoreError) → e ≡ Read → IsOfDisk e
read_of_disk e is = subst IsOfDisk (sym is) tt

pub down_not_read : (e : StoreError) (fault : Fault) (P : Type 0) → e ≡ Down fault → OnRead e P
down_not_read e fault P is = subst (λ (x : StoreError). OnRead x P) (sym is) tt

pub down_of_disk : (e : StoreError) (fault : Fault) → e ≡ Down fault → IsOfDisk e
down_of_disk e fault is = subst IsOfDisk (sym is) tt

module _ {D : Type 0} (g : Ghosts D) (chosen : Option Slot) (slot : Slot) (old new : D) (at : ℕ) (place : IsPlace at) (target : IsTarget (g.seen old) chosen at) (e : StoreError) (fault : Fault) (is : e ≡ Down fault) where
  pub stopped_before : FailsAt at fault ⊎ FailsAt (at + 1) fault → LeavesOnly g old new (LeftOld (g.may_leave old) chosen) → IfDown e (Stopped g chosen slot old new)
  stopped_before fails run = subst (λ (x : StoreError). IfDown x (Stopped g chosen slot old new)) (sym is) (at, place, target, inl (fails, run))

  pub stopped_at_gate : FailsAt at fault → Each (g.may_leave new) (AtGate (g.may_leave old) chosen slot) → IfDown e (Stopped g chosen slot old new)
  stopped_at_gate fails there = subst (λ (x : StoreError). IfDown x (Stopped g chosen slot old new)) (sym is) (at, place, target, inr (fails, there))
