-- The checkpoint that a store has running.
use Rattle.std.specs.Prelude.{◌≡◌, None, Option, Some, option_map}
use Rattle.kv_model.specs.Machine.{Checkpoint, Machine}
use Rattle.engine.specs.declared.running_checkpoint.RunningCheckpoint.{RunningCheckpoint}
use Rattle.ckpt_step.specs.declared.ground.Ground.{Ground}
use Rattle.ckpt_step.specs.Moments.{IsUnderWay}
use Rattle.engine_store.specs.declared.progress.Underway.{Underway}

-- the machine runs none, or this one, over the last completed one of the ground
abbrev pub RunsOver : Ground → Option Underway → Machine → Type 0
RunsOver g None m = m.checkpoint ≡ None
RunsOver g (Some u) m = (c : Checkpoint) × IsUnderWay m c u.checkpoint g

-- without how far its steps have come
abbrev pub checkpoint_of : Option Underway → Option RunningCheckpoint
checkpoint_of running = option_map (λ (u : Underway). u.checkpoint) running
