-- How far a session's call has come whose leaves are read from the device.
use Rattle.std.specs.Prelude.{◌≡◌, ℕ, zero, suc, Option, None, Some, Result, Ok, Err}
use Rattle.failure.specs.Counts.{Rose}
use Rattle.disk_model.specs.declared.disk.Disk.{Ghosts}
use Rattle.wt_code.specs.declared.refusals.Refusal.{Refusal}
use Rattle.kv_model.specs.Calls.{Call}
use Rattle.stored.specs.Stored.{Stored}
use Rattle.engine_world.specs.Stands.{Engine, Stands}
use Rattle.engine_world.specs.Steps.{MayKeepOut}
use Rattle.engine_world.specs.Worlds.{World}
use Rattle.engine.specs.declared.called.Called.{Called}
use Rattle.engine.specs.declared.called.Called.TheVariants as called
use Rattle.engine.specs.declared.step.Actor.TheVariants as actor
use Rattle.engine.specs.declared.step.Step.{Step}
use Rattle.engine.specs.declared.step.Step.TheVariants.{Go}
use Rattle.engine.specs.Waits.{turns_in}
use Rattle.engine.specs.Whole.{IsUnderWay, KeptBy, MayCallKept}
use Rattle.evict_step.specs.Kept.{Lists}
use Rattle.ckpt_step.specs.Floors.{AreLivesOn, Follows}
use Rattle.ckpt_step.specs.Grounds.{StandsOn}
use Rattle.engine_store.specs.declared.frames.Frames.{Frames}
use Rattle.engine_store.specs.declared.store.Store.{Store}
use Rattle.engine_store.specs.Calls.{Basis, EndsIn, GoesOrKept, MayAnswerSo}
use Rattle.engine_store.specs.Full.{MayBeFull}
use Rattle.engine_store.specs.Keeping.{with_kept}
use Rattle.engine_store.specs.Loads.{IsCause, IsCaused}

-- While the engine is up, the ground is that of the disk's checkpoint, and follows this world: its shelf has the leaves that are in no frame. Those that were written since are on the disk.
abbrev pub IsBacked : {D : Type 0} → Ghosts D → Store → D → World → Type 0
IsBacked g s disk w = s.engine.hub.fault ≡ None → (old : Option Stored) × StandsOn (g.seen disk) (g.may_leave disk) s.engine.hub s.ground old × Follows old s.engine.hub s.ground w × AreLivesOn (g.seen disk) s.engine.hub s.ground w

-- the store stands for a world that came of that one, in which the history has what the store keeps
pub record IsReached {D : Type 0} (g : Ghosts D) (s : Store) (disk : D) (w now : World) : Type 0 where
  pub backed : IsBacked g s disk w
  pub stands : Stands s.engine (with_kept s.ground.kept now)
  pub fault : now.machine.fault ≡ w.machine.fault
  pub shelf : now.shelf ≡ w.shelf

-- a leaf comes in, or is kept from the session's call; lists: what the store keeps then
abbrev pub ComesOrNot : (Caused : Refusal → Type 0) → Engine → Lists → World → ℕ → Result (Unit {0}) Refusal → Type 0
ComesOrNot Caused e lists now session (Ok done) = Stands e (with_kept lists now)
ComesOrNot Caused e lists now session (Err r) = Caused r × (later : World) × MayKeepOut now session r later × Stands e (with_kept lists later)

-- of a call that began with nobody between
abbrev pub ReachesOrNot : (Caused : Refusal → Type 0) → Engine → Lists → World → ℕ → Call → World → Result (Unit {0}) Refusal → Type 0
ReachesOrNot Caused e lists w session asked now (Ok done) = Stands e (with_kept lists now)
ReachesOrNot Caused e lists w session asked now (Err r) = Caused r × (later : World) × IsUnderWay (Some r) w session asked later × Stands e (with_kept lists later)

-- the session with whose call a step goes on
abbrev pub session_in : Step → Option ℕ
session_in (Go (actor.Session session)) = Some session
session_in _ = None

-- of a step: the leaf that its call waits for, where there is one
abbrev pub ReadiesOrNot : (Caused : Refusal → Type 0) → Engine → Lists → World → Step → Result (Unit {0}) Refusal → Type 0
ReadiesOrNot Caused e lists now made (Ok done) = Stands e (with_kept lists now)
ReadiesOrNot Caused e lists now made (Err r) = (session : ℕ) × (made ≡ Go (actor.Session session)) × Caused r × (later : World) × MayKeepOut now session r later × Stands e (with_kept lists later)

-- ---- a whole call

-- why a leaf is kept from a call that began in this world and has reached that one: of the reads since an earlier disk, with so many frames
abbrev pub CauseSince : {D : Type 0} → Ghosts D → D → D → Frames → World → World → Refusal → Type 0
CauseSince g first disk frames w now r = IsCause (Rose (g.faults first) (g.faults disk)) (MayBeFull frames now) w.machine.fault r

-- why one was kept from it, where one was
abbrev pub CausedSince : {D : Type 0} → Ghosts D → D → D → Frames → World → ℕ → Call → KeptBy → Type 0
CausedSince g first disk frames w session asked kept = IsCaused (CauseSince g first disk frames w) w session asked kept

-- it has its answer, or waits for a leaf; lists: what the store keeps then
abbrev pub CallsBy : {D : Type 0} → Ghosts D → D → D → Frames → Called → Engine → Lists → World → ℕ → Call → Type 0
CallsBy g first disk frames (called.Ended answer) e lists w session asked =
    (kept : KeptBy) × CausedSince g first disk frames w session asked kept × (later : World) × MayCallKept kept w session asked answer later × Stands e (with_kept lists later)
CallsBy g first disk frames (called.Waits leaf) e lists w session asked = (now : World) × IsUnderWay None w session asked now × Stands e (with_kept lists now)

-- ---- the steps of one

-- so many steps after which it goes on
abbrev pub GoesIn : (Caused : World → Refusal → Type 0) → ℕ → World → ℕ → World → Type 0
GoesIn Caused zero w session last = last ≡ w
GoesIn Caused (suc n) w session last = (next : World) × GoesOrKept Caused w session next × GoesIn Caused n next session last

-- they have ended it, or it waits for a leaf; lists: what the store keeps then
abbrev pub StepsBy : {D : Type 0} → Ghosts D → D → D → Frames → Called → Engine → Lists → World → ℕ → Type 0
StepsBy g first disk frames (called.Ended answer) e lists w session = (n : ℕ) × (last : World) × EndsIn (CauseSince g first disk frames w) n w session answer last × Stands e (with_kept lists last)
StepsBy g first disk frames (called.Waits leaf) e lists w session = (n : ℕ) × (last : World) × GoesIn (CauseSince g first disk frames w) n w session last × Stands e (with_kept lists last)

-- ---- what is told

-- where it has an answer, that may be told
abbrev pub CalledSo : {D : Type 0} → Ghosts D → Option Basis → D → D → Called → Type 0
CalledSo g basis start_disk disk (called.Ended answer) = MayAnswerSo g basis start_disk disk answer
CalledSo g basis start_disk disk (called.Waits leaf) = Unit {0}

-- ---- how many steps are left at most

abbrev pub rounds_left : Called → Engine → ℕ → ℕ
rounds_left (called.Ended answer) e session = zero
rounds_left (called.Waits leaf) e session = suc (turns_in e session)
