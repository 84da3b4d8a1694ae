-- What keeps a close from its work.
use Rattle.std.specs.Prelude.{◌≡◌, ℕ, ◌+◌, Bool, true, false, List, [], ◌∷◌, map, Option, None, Some, Result, Ok, Err, if◌then◌else◌}
use Rattle.failure.specs.declared.Fault.{Fault}
use Rattle.wt_code.specs.declared.refusals.Busy.{Busy}
use Rattle.wt_code.specs.declared.refusals.Refusal.{Refusal}
use Rattle.wt_code.specs.declared.refusals.Refusal.TheVariants as told
use Rattle.kv_model.specs.Closing.{close_busy}
use Rattle.kv_model.specs.Outside.{Unfinished}
use Rattle.call_steps.specs.declared.stage.Stage.{Stage}
use Rattle.call_steps.specs.declared.stage.Stage.TheVariants as stage
use Rattle.call_steps.specs.State.{State}
use Rattle.engine_world.specs.Worlds.{World, Doing, Resting}

abbrev pub is_under_way : Doing → Bool
is_under_way Resting = false
is_under_way _ = true

-- which sessions have a call that is not finished; nothing is evicted
abbrev pub unfinished_in : World → Unfinished
unfinished_in w = record { eviction = None; calls = map is_under_way w.sessions }

-- who keeps a close from its work
abbrev pub busy_in : World → Option Busy
busy_in w = close_busy w.machine (unfinished_in w)

-- a fault is told before who is busy
abbrev pub close_told : Option Fault → Option Busy → Result (Unit {0}) Refusal
close_told (Some fault) busy = Err (told.Panic fault)
close_told None (Some busy) = Err (told.Busy busy)
close_told None None = Ok tt

-- a close may come
abbrev pub MayClose : World → Type 0
MayClose w = close_told w.machine.fault (busy_in w) ≡ Ok tt

-- ---- over the sessions of an engine

abbrev pub is_at_work : Stage → Bool
is_at_work stage.Rest = false
is_at_work _ = true

-- the lowest session with a call that is not finished
abbrev pub first_at_work : ℕ → List State → Option ℕ
first_at_work at [] = None
first_at_work at (a ∷ later) = if is_at_work a.stage then Some at else first_at_work (at + 1) later
