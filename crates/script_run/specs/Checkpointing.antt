-- What lines ask of a checkpoint that runs beside other work, whole and by steps.
use Rattle.std.specs.Prelude.{ℕ, Bool, false, List, Option, None, slice_index_or}
use Rattle.wt_calls.specs.declared.system_call.SystemCall.{SystemCall}
use Rattle.wt_calls.specs.declared.system_call.SystemCall.TheVariants.{StartCheckpoint, StepCheckpoint, FinishCheckpoint}
use Rattle.engine.specs.declared.step.Actor.{Actor}
use Rattle.engine.specs.declared.step.Actor.TheVariants as by
use Rattle.script_run.specs.declared.checkpointing.CheckpointStage.{CheckpointStage}
use Rattle.script_run.specs.declared.checkpointing.CheckpointStage.TheVariants.{Asked, Found}
use Rattle.script_run.specs.declared.checkpointing.CheckpointTurn.{CheckpointTurn}
use Rattle.script_run.specs.declared.checkpointing.CheckpointTurn.TheVariants.{Start, Step, Finish}

-- the call of the system that asks it
abbrev pub asked_in : CheckpointTurn → SystemCall
asked_in Start = StartCheckpoint
asked_in Step = StepCheckpoint
asked_in Finish = FinishCheckpoint

-- what a call at this stage asks
abbrev pub turn_of : CheckpointStage → CheckpointTurn
turn_of (Asked turn) = turn
turn_of Found = Step

-- its next step finds that a leaf is left, and takes none yet
abbrev pub finds_leaf : CheckpointStage → Bool → Bool
finds_leaf (Asked Step) left = left
finds_leaf _ left = false

-- where the call of an actor of the system stands, if it has one; a session has none
abbrev pub checkpointing_by : List (Option CheckpointStage) → ℕ → Option CheckpointStage
checkpointing_by checkpointing number = slice_index_or checkpointing number None

abbrev pub checkpointing_of : Actor → List (Option CheckpointStage) → Option CheckpointStage
checkpointing_of (by.Session session) checkpointing = None
checkpointing_of (by.System number) checkpointing = checkpointing_by checkpointing number
