-- What is under way in an engine is mild: its events are none of a checkpoint, no rollback to stable and no fault.
use Rattle.std.proofs.Common.{Option, Some, None}
use Rattle.std.specs.Prelude.{MatchOption, slice_index_or}
use Rattle.kv_model.specs.Calls.{Call, Commit, CkptStart, CkptStep, CkptFinish, Rts, Close}
use Rattle.kv_model.specs.Machine.{Event, CommitAt, RollbackToStable, CheckpointStart, CheckpointFinish, CheckpointDrop, GoDown}
use Rattle.wt_calls.specs.Calls.{session_call_in, system_call_in}
use Rattle.wt_calls.specs.declared.call.Call.{Call as AnyCall}
use Rattle.wt_calls.specs.declared.call.Call.TheVariants as call
use Rattle.engine.specs.declared.step.Step.{Step}
use Rattle.engine.specs.declared.step.Step.TheVariants.{Start, Go}
use Rattle.engine_world.specs.Worlds.{Doing, Resting, Asked, Placed, Decided, Ending, World, doing_of}
use Rattle.ckpt_step.specs.Keeps.{AreOrdinary, IsOrdinary, IsOrdinaryCall, IsOrdinaryDoing, IsOrdinaryEvent, IsOrdinaryStep}
use Rattle.ckpt_step.proofs.Quiet.{IsMild, IsQuiet}
use Rattle.ckpt_step.proofs.StepCalls.{IsMildAny, IsMildDoing, IsMildIn, IsMildStep, IsMildWorld}

pub mild_call : (made : Call) → IsOrdinary made → IsMild ⊥ made
mild_call (Commit None None) there = tt
mild_call (Commit None (Some durable)) there = λ bar. bar
mild_call (Commit (Some commit) durable) there = λ bar. bar
mild_call CkptStart there = absurd there
mild_call CkptStep there = absurd there
mild_call CkptFinish there = absurd there
mild_call Rts there = absurd there
mild_call Close there = absurd there
mild_call _ there = tt

quiet_event : (event : Event) → IsOrdinaryEvent event → IsQuiet ⊥ event
quiet_event (CommitAt session commit durable) there = λ bar. absurd bar
quiet_event RollbackToStable there = absurd there
quiet_event CheckpointStart there = absurd there
quiet_event CheckpointFinish there = absurd there
quiet_event CheckpointDrop there = absurd there
quiet_event (GoDown fault) there = absurd there
quiet_event _ there = tt

pub ordinary_event : (event : Event) → IsQuiet ⊥ event → IsOrdinaryEvent event
ordinary_event RollbackToStable quiet = absurd quiet
ordinary_event CheckpointStart quiet = absurd quiet
ordinary_event CheckpointFinish quiet = absurd quiet
ordinary_event CheckpointDrop quiet = absurd quiet
ordinary_event (GoDown fault) quiet = absurd quiet
ordinary_event _ quiet = tt

mild_doing : (doing : Doing) → IsOrdinaryDoing doing → IsMildDoing ⊥ doing
mild_doing Resting there = tt
mild_doing (Asked made left) there = mild_call made there
mild_doing (Placed made table left) there = mild_call made there
mild_doing (Decided answer event left) there = quiet_event event there
mild_doing (Ending answer left) there = tt

mild_in : (o : Option Call) → MatchOption o (Unit {0}) IsOrdinary → IsMildIn ⊥ o
mild_in None there = tt
mild_in (Some made) there = mild_call made there

pub mild_any : (made : AnyCall) → IsOrdinaryCall made → IsMildAny ⊥ made
mild_any (call.Session session made) there = mild_call (session_call_in made) there
mild_any (call.System number made) there = mild_call (system_call_in made) there

pub mild_step : (step : Step) → IsOrdinaryStep step → IsMildStep ⊥ step
mild_step (Start made) there = mild_any made there
mild_step (Go who) there = tt

pub mild_world : (w : World) → AreOrdinary w → IsMildWorld ⊥ w
mild_world w are = record {
  sessions = λ session. mild_doing (doing_of w session) (are.doings session);
  systems = λ number. mild_in (slice_index_or w.systems number None) (are.systems number);
}
