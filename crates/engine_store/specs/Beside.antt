-- The calls of actors beside evictions that go by steps, which have frames locked.
use Rattle.std.specs.Prelude.{◌≡◌, ◌⊎◌, ℕ, List, Option}
use Rattle.failure.specs.Counts.{Rose}
use Rattle.failure.specs.declared.Fault.{Fault}
use Rattle.disk_model.specs.declared.disk.Disk.{Ghosts}
use Rattle.wt_code.specs.declared.answers.Answer.{Answer}
use Rattle.wt_code.specs.declared.answers.Answer.TheVariants as answers
use Rattle.wt_code.specs.declared.refusals.Refusal.{Refusal}
use Rattle.wt_code.specs.declared.refusals.Refusal.TheVariants.{Again}
use Rattle.kv_model.specs.Calls.{Call}
use Rattle.kv_model.specs.Machine.{Completed}
use Rattle.call_steps.specs.declared.reply.Reply.{Reply}
use Rattle.call_steps.specs.declared.reply.Reply.TheVariants as reply
use Rattle.engine_world.specs.Stands.{Engine}
use Rattle.engine_world.specs.Worlds.{World}
use Rattle.engine.specs.declared.step.Actor.{Actor}
use Rattle.engine.specs.declared.step.Actor.TheVariants as actor
use Rattle.engine.specs.declared.step.Step.{Step}
use Rattle.engine.specs.declared.step.Step.TheVariants.{Go}
use Rattle.engine.specs.declared.turning.Evicting.{Evicting}
use Rattle.engine.specs.Told.{answer_in}
use Rattle.engine.specs.Turning.{IsTurned, SeesLock}
use Rattle.engine.specs.Whole.{KeptBy, MayCallKept}
use Rattle.engine_store.specs.declared.store.Store.{Store}
use Rattle.engine_store.specs.Calls.{EndsBy, MayStepOn}
use Rattle.engine_store.specs.Devices.{Installed}
use Rattle.engine_store.specs.Full.{MayBeFull}
use Rattle.engine_store.specs.Held.{IsHeld}
use Rattle.engine_store.specs.Loads.{IsCause, IsCaused}

-- ---- why a leaf is kept from a call

-- an eviction has locked its frame, and the call is told what it read there
abbrev pub IsLockedOut : List (Option Evicting) → Refusal → Type 0
IsLockedOut evicting r = (frame : ℕ) × (word : ℕ) × (seen : ℕ) × (r ≡ Again seen) × SeesLock evicting frame word seen

abbrev pub IsCauseBeside : List (Option Evicting) → (fault full : Type 0) → Option Fault → Refusal → Type 0
IsCauseBeside evicting fault full down r = IsCause fault full down r ⊎ IsLockedOut evicting r

-- a call that comes to a locked frame goes no further
abbrev pub TurnsAway : List (Option Evicting) → Engine → Engine → ℕ → Reply → Type 0
TurnsAway evicting e e' session told = (seen : ℕ) → IsTurned e session evicting seen → (told ≡ reply.More) × (answer_in e' session ≡ answers.Refused (Again seen))

abbrev pub StepTurnsAway : List (Option Evicting) → Engine → Engine → Step → Reply → Type 0
StepTurnsAway evicting e e' (Go (actor.Session session)) told = TurnsAway evicting e e' session told
StepTurnsAway evicting e e' _ told = Unit {0}

-- ---- of a store whose disk it holds, beside these evictions

module _ {D : Type 0} (g : Ghosts D) (start_disk : D) (w : World) (first : Completed) (made : List Installed) (s s' : Store) (before after : D) (evicting : List (Option Evicting)) where
  -- why a leaf is kept from a call here, in a world that the call has reached
  abbrev pub CauseBeside : World → Refusal → Type 0
  CauseBeside now r = IsCauseBeside evicting (Rose (g.faults before) (g.faults after)) (MayBeFull s.frames now) w.machine.fault r

  -- a whole call of a session
  pub record CalledBeside (session : ℕ) (asked : Call) (answer : Answer (List ℕ)) : Type 0 where
    pub kept : KeptBy
    pub caused : IsCaused CauseBeside w session asked kept
    pub later : World
    pub called : MayCallKept kept w session asked answer later
    pub held : IsHeld g start_disk s' after later first made

  -- a step
  pub record SteppedBeside (step_made : Step) (told : Reply) : Type 0 where
    pub later : World
    pub stepped : MayStepOn CauseBeside w step_made told later
    pub held : IsHeld g start_disk s' after later first made

  -- what was left of a call
  pub record FinishedBeside (who : Actor) (answer : Answer (List ℕ)) : Type 0 where
    pub later : World
    pub ended : EndsBy CauseBeside w who answer later
    pub held : IsHeld g start_disk s' after later first made
