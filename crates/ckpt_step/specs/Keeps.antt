-- What calls leave as it is, whatever their stamps, but those of a checkpoint.
use Rattle.std.specs.Prelude.{◌≡◌, ℕ, List, None, MatchOption, slice_index_or}
use Rattle.wt_code.specs.declared.answers.Answer.{Answer}
use Rattle.wt_code.specs.declared.refusals.Refusal.{Refusal}
use Rattle.kv_model.specs.Calls.{Call as ModelCall, CkptStart, CkptStep, CkptFinish, Rts, Close}
use Rattle.kv_model.specs.Machine.{Event, RollbackToStable, CheckpointStart, CheckpointFinish, CheckpointDrop, GoDown}
use Rattle.wt_calls.specs.Calls.{session_call_in, system_call_in}
use Rattle.wt_calls.specs.declared.call.Call.{Call}
use Rattle.wt_calls.specs.declared.call.Call.TheVariants as call
use Rattle.call_steps.specs.declared.reply.Reply.{Reply}
use Rattle.engine_world.specs.Stands.{Engine, Stands}
use Rattle.engine_world.specs.Steps.{MayKeepOut}
use Rattle.engine_world.specs.Worlds.{World, Doing, Resting, Asked, Placed, Decided, Ending, doing_of}
use Rattle.engine.specs.declared.step.Step.{Step}
use Rattle.engine.specs.declared.step.Step.TheVariants.{Start, Go}
use Rattle.engine.specs.Runs.{CallFits, MayStep, StepFits}
use Rattle.engine.specs.Sound.{AreBuilt}
use Rattle.engine.specs.Whole.{KeptBy, MayAnswer, MayCallKept, with_session_more}

-- none of a checkpoint, no rollback to stable and no close
abbrev pub IsOrdinary : ModelCall → Type 0
IsOrdinary CkptStart = ⊥
IsOrdinary CkptStep = ⊥
IsOrdinary CkptFinish = ⊥
IsOrdinary Rts = ⊥
IsOrdinary Close = ⊥
IsOrdinary _ = Unit {0}

-- none of a checkpoint, no rollback to stable and no fault
abbrev pub IsOrdinaryEvent : Event → Type 0
IsOrdinaryEvent RollbackToStable = ⊥
IsOrdinaryEvent CheckpointStart = ⊥
IsOrdinaryEvent CheckpointFinish = ⊥
IsOrdinaryEvent CheckpointDrop = ⊥
IsOrdinaryEvent (GoDown fault) = ⊥
IsOrdinaryEvent _ = Unit {0}

abbrev pub IsOrdinaryDoing : Doing → Type 0
IsOrdinaryDoing Resting = Unit {0}
IsOrdinaryDoing (Asked made left) = IsOrdinary made
IsOrdinaryDoing (Placed made table left) = IsOrdinary made
IsOrdinaryDoing (Decided answer event left) = IsOrdinaryEvent event
IsOrdinaryDoing (Ending answer left) = Unit {0}

abbrev pub IsOrdinaryCall : Call → Type 0
IsOrdinaryCall (call.Session session made) = IsOrdinary (session_call_in made)
IsOrdinaryCall (call.System number made) = IsOrdinary (system_call_in made)

abbrev pub IsOrdinaryStep : Step → Type 0
IsOrdinaryStep (Start made) = IsOrdinaryCall made
IsOrdinaryStep (Go who) = Unit {0}

-- so is each call that is under way
pub record AreOrdinary (w : World) : Type 0 where
  pub doings : (session : ℕ) → IsOrdinaryDoing (doing_of w session)
  pub systems : (number : ℕ) → MatchOption (slice_index_or w.systems number None) (Unit {0}) IsOrdinary

-- the last completed checkpoint, the one that runs and the fault are as they were, and what is under way is ordinary
pub record Keeps (w next : World) : Type 0 where
  pub completed : next.machine.completed ≡ w.machine.completed
  pub checkpoint : next.machine.checkpoint ≡ w.machine.checkpoint
  pub fault : next.machine.fault ≡ w.machine.fault
  pub ordinary : AreOrdinary next

-- what an engine has under way is, and each step and call that fits it
abbrev pub EnginesAreOrdinary : Type 0
EnginesAreOrdinary = (e : Engine) (w : World) → Stands e w → AreBuilt e.systems → AreOrdinary w

abbrev pub FitsAreOrdinary : Type 0
FitsAreOrdinary = (e : Engine) → ((step : Step) → StepFits e step → IsOrdinaryStep step) × ((made : Call) → CallFits e made → IsOrdinaryCall made)

-- a step keeps them, a whole call, and a session more
abbrev pub StepsKeep : Type 0
StepsKeep =
    ((w next : World) (step : Step) (told : Reply) → AreOrdinary w → IsOrdinaryStep step → MayStep w step told next → Keeps w next)
    × ((w next : World) (made : Call) (answer : Answer (List ℕ)) → AreOrdinary w → IsOrdinaryCall made → MayAnswer w made answer next → Keeps w next)
    × ((w : World) → AreOrdinary w → Keeps w (with_session_more w))

-- so does a whole call of a session from which its leaf may have been kept
abbrev pub KeptKeep : Type 0
KeptKeep = (kept : KeptBy) (w next : World) (session : ℕ) (made : ModelCall) (answer : Answer (List ℕ)) → AreOrdinary w → IsOrdinary made → MayCallKept kept w session made answer next → Keeps w next

-- so does a session's call that is refused the leaf that it waits for
abbrev pub KeptOutKeep : Type 0
KeptOutKeep = (w next : World) (session : ℕ) (r : Refusal) → AreOrdinary w → MayKeepOut w session r next → Keeps w next
