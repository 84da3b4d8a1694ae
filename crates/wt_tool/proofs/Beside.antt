-- Calls with the device beside them, which they read alone.
use Rattle.std.specs.Prelude.{◌≡◌, ◌⊎◌, ℕ, List, [], Option, Some, None}
use Rattle.std.proofs.Common.{inl, inr, refl, sym, subst, ◌∙◌, arith}
use Rattle.failure.specs.Counts.{Rose}
use Rattle.failure.specs.declared.Fault.{Fault}
use Rattle.disk_model.specs.Crash.{Looked}
use Rattle.disk_model.specs.declared.disk.Disk.{Ghosts}
use Rattle.wt_code.specs.declared.answers.Answer.{Answer}
use Rattle.wt_code.specs.declared.answers.Answer.TheVariants as answers
use Rattle.wt_code.specs.declared.refusals.Refusal.{Refusal}
use Rattle.wt_code.specs.declared.refusals.Refusal.TheVariants.{DiskFault, NoMemory}
use Rattle.kv_model.specs.Machine.{Machine, GoDown, after}
use Rattle.kv_model.specs.Decisions as kv
use Rattle.kv_model.specs.Decisions.{Demand, Request, FindKey, FindToWrite}
use Rattle.item.specs.declared.change.Change.TheVariants.{Put as PutOf, Remove as RemoveOf}
use Rattle.kv_model.specs.Calls.{Session, Call, GetKey, PutKey, RemoveKey, SeekKey, NextRow, Around, IsHeldUp, HeldUp, SessionAnswers}
use Rattle.checkpoint_core.specs.Stands.{HasStill}
use Rattle.engine_world.specs.Whole.{around_kept}
use Rattle.engine_world.specs.Worlds.{World}
use Rattle.engine.specs.Whole.{KeptBy}
use Rattle.engine_store.specs.Devices.{Device, IsLater, KeepsCheckpoint, device_of}
use Rattle.engine_store.specs.declared.frames.Frames.{Frames}
use Rattle.engine_store.specs.declared.frames.Frames.TheVariants.{Soft}
use Rattle.engine_store.specs.Full.{MayBeFull}
use Rattle.engine_store.specs.Loads.{IsCause}
use Rattle.wt_tool.specs.Parts.{at}
use Rattle.wt_tool.specs.Points.{Did, around}

pub same_device : (d : Device) → IsLater d d
same_device d = record { faults = omega arith; moment = omega arith }

pub keeps_same : (d : Device) → KeepsCheckpoint d d
keeps_same d = record { capacity = refl; checkpoint = λ s has. has }

-- a disk that was looked at alone
pub looked_later : {D : Type 0} (g : Ghosts D) (old new : D) → Looked g old new → IsLater (device_of g old) (device_of g new)
looked_later g old new looked = record { faults = looked.count; moment = looked.later }

pub looked_keeps : {D : Type 0} (g : Ghosts D) (old new : D) → Looked g old new → KeepsCheckpoint (device_of g old) (device_of g new)
looked_keeps g old new looked = record { capacity = looked.capacity; checkpoint = λ s has. subst (λ (bytes : List ℕ). HasStill s bytes) (sym looked.content) has }

some_one : {A : Type 0} (a b : A) → Some a ≡ Some b → a ≡ b
some_one a b is = cc

fault_not : (r : Refusal) → r ≡ NoMemory → r ≡ DiskFault → ⊥
fault_not r short fault = let no : NoMemory ≡ DiskFault = sym short ∙ fault in cc

-- no frames are full where they are soft
pub soft_cause : (fault : Type 0) (frames : Frames) (count : ℕ) (now : World) (down : Option Fault) (r : Refusal) → frames ≡ Soft count → IsCause fault (MayBeFull frames now) down r → IsCause fault ⊥ down r
soft_cause fault frames count now down r soft (inl none) = inl none
soft_cause fault frames count now down r soft (inr (inl failed)) = inr (inl failed)
soft_cause fault frames count now down r soft (inr (inr (inl panic))) = inr (inr (inl panic))
soft_cause fault frames count now down r soft (inr (inr (inr (is, full)))) = inr (inr (inr (is, subst (λ (f : Frames). MayBeFull f now) soft full)))

-- what keeps a leaf from a call of an engine that is up
module _ (d d' : Device) (m : Machine) (up : m.fault ≡ None) (kept : KeptBy) (caused : (r : Refusal) → kept ≡ Some r → IsCause (Rose d.faults d'.faults) ⊥ m.fault r) where
  abbrev given : Around
  given = around_kept kept

  wider_held : (session : ℕ) (request : Request) (answer : Answer (List ℕ)) (next : Machine) → IsHeldUp given m session request answer next → IsHeldUp (around [] d d') m session request answer next
  wider_held session request answer next (inl short) = inl short
  wider_held session request answer next (inr (e, decides, inl short)) = inr (e, decides, inl short)
  wider_held session request answer next (inr (e, decides, inr (r, may, told, rest))) = by_cause (caused r may) rest
    where
      by_cause : IsCause (Rose d.faults d'.faults) ⊥ m.fault r → (next ≡ after m e) ⊎ ((r ≡ DiskFault) × ((f : Fault) × (next ≡ after (after m e) (GoDown f)))) → IsHeldUp (around [] d d') m session request answer next
      by_cause (inl short) (inl same) = inr (e, decides, inl (subst (λ (x : Refusal). answer ≡ answers.Refused x) short told, same))
      by_cause (inl short) (inr (fault, (f, down))) = absurd (fault_not r short fault)
      by_cause (inr (inl (fault, rose))) rest = inr (e, decides, inr (r, (fault, rose), told, rest))
      by_cause (inr (inr (inr (full, none)))) rest = absurd none
      by_cause (inr (inr (inl (f, panic, down)))) rest = let no : None ≡ Some f = sym up ∙ down in absurd (cc)

  wider_up : (session : ℕ) (c : Call) (answer : Answer (List ℕ)) (next : Machine) → HeldUp given m session c answer next → HeldUp (around [] d d') m session c answer next
  wider_up session (GetKey name key) answer next held = wider_held session (FindKey name key) answer next held
  wider_up session (SeekKey cursor name key) answer next held = wider_held session (FindKey name key) answer next held
  wider_up session (NextRow cursor name way) answer next held = wider_held session (kv.FindRow name) answer next held
  wider_up session (PutKey name key value demand) answer next held = wider_held session (FindToWrite name key (PutOf value)) answer next held
  wider_up session (RemoveKey name key) answer next held = wider_held session (FindToWrite name key RemoveOf) answer next held
  wider_up session _ answer next held = absurd held

  pub wider : (session : ℕ) (c : Call) (answer : Answer (List ℕ)) (next : Machine) → SessionAnswers given m session c answer next → SessionAnswers (around [] d d') m session c answer next
  wider session c answer next (inl decides) = inl decides
  wider session c answer next (inr held) = inr (wider_up session c answer next held)

-- a put for which memory is too short
pub short_put : (d : Device) (m : Machine) (name key value : List ℕ) (demand : Demand) → Did (at d m) (Session 0) (PutKey name key value demand) (answers.Refused NoMemory) (at d m)
short_put d m name key value demand = record { later = same_device d; keeps = keeps_same d; answers = inr (inl (refl, refl)) }

-- and a get
pub short_get : (d : Device) (m : Machine) (name key : List ℕ) → Did (at d m) (Session 0) (GetKey name key) (answers.Refused NoMemory) (at d m)
short_get d m name key = record { later = same_device d; keeps = keeps_same d; answers = inr (inl (refl, refl)) }
