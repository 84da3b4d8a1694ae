-- What a session does, as its state says.
use Rattle.std.specs.Prelude.{ℕ, ◌+◌, ◌*◌, ◌^◌, List, length, filter, Some, None}
use Rattle.wt_code.specs.declared.answers.Answer.{Answer}
use Rattle.wt_code.specs.declared.answers.Answer.TheVariants as answers
use Rattle.wt_code.specs.declared.refusals.Refusal.TheVariants.{NotFound}
use Rattle.kv_model.specs.Machine.{Event, PlaceCursor, Nothing, of_some}
use Rattle.kv_model.specs.Calls.{Call, Begin, GetKey, PutKey, RemoveKey, SeekKey, NextRow, Reset, Prepare, Commit, Rollback}
use Rattle.wt_calls.specs.Calls.{demand_in, way_in}
use Rattle.tree_dir.specs.declared.leaf.Leaf.{Leaf}
use Rattle.txn_table.specs.declared.phase.Phase.{Phase}
use Rattle.txn_table.specs.declared.phase.Phase.TheVariants as phase
use Rattle.call_steps.specs.declared.stage.KeyCall.{KeyCall}
use Rattle.call_steps.specs.declared.stage.KeyCall.TheVariants as key_call
use Rattle.call_steps.specs.declared.stage.CommitStamps.{CommitStamps}
use Rattle.call_steps.specs.declared.stage.Stage.{Stage}
use Rattle.call_steps.specs.declared.stage.Stage.TheVariants as stage
use Rattle.call_steps.specs.declared.stage.Target.{Target}
use Rattle.call_steps.specs.Stages.{cursor_in}
use Rattle.call_steps.specs.State.{State, is_pinned}
use Rattle.engine_world.specs.Walks.{leaves_left}
use Rattle.engine_world.specs.Worlds.{Doing, Resting, Asked, Placed, Decided, Ending}

-- the call on a leaf, with what it names
abbrev pub call_in : KeyCall → State → Call
call_in key_call.Get a = GetKey a.name a.key
call_in (key_call.Put demand) a = PutKey a.name a.key a.value (demand_in demand)
call_in key_call.Remove a = RemoveKey a.name a.key
call_in (key_call.Seek cursor) a = SeekKey cursor a.name a.key
call_in (key_call.Step cursor way) a = NextRow cursor a.name (way_in way)

abbrev pub commit_in : CommitStamps → Call
commit_in stamps = Commit stamps.commit stamps.durable

-- where an answer takes a cursor
abbrev pub landing : ℕ → ℕ → Target → List ℕ → Answer (List ℕ) → Event
landing session cursor target key (answers.Value v) = PlaceCursor session cursor (Some (record { table = target.table; key = key }))
landing session cursor target key (answers.Row k v) = PlaceCursor session cursor (Some (record { table = target.table; key = key }))
landing session cursor target key (answers.Refused NotFound) = PlaceCursor session cursor None
landing session cursor target key _ = Nothing

-- the event that comes with an answer
abbrev pub event_with : ℕ → KeyCall → Target → List ℕ → Answer (List ℕ) → Event
event_with session call target key answer = of_some Nothing (λ cursor. landing session cursor target key answer) (cursor_in call)

-- ---- how many steps are left at most

-- the hazard words of positioned cursors, which the end of a transaction clears
abbrev pub unpins_left : State → ℕ
unpins_left a = length (filter is_pinned a.cursors)

abbrev pub done_left : State → ℕ
done_left a = unpins_left a + 1

abbrev pub decide_left : State → ℕ
decide_left a = length a.written + (done_left a + 1)

-- a leaf that a walk goes past takes it five steps
abbrev pub further_from : KeyCall → ℕ → ℕ → List Leaf → ℕ
further_from call table id leaves = 5 * leaves_left call table id leaves

abbrev pub further_left : KeyCall → Target → List Leaf → ℕ
further_left call target leaves = further_from call target.table target.leaf leaves

-- no directory has more leaves
abbrev pub find_left : ℕ
find_left = 8 + 5 * 2 ^ 28

-- ---- by the stage of the call

abbrev pub stamping : Phase → CommitStamps → ℕ → State → Doing
stamping phase.Running stamps left a = Asked (commit_in stamps) (left + decide_left a)
stamping _ stamps left a = Ending a.answer (left + done_left a)

abbrev pub undoing : Phase → ℕ → State → Doing
undoing phase.Running left a = Asked Rollback (left + done_left a)
undoing phase.Failed left a = Asked Rollback (left + done_left a)
undoing _ left a = Ending a.answer (left + done_left a)

abbrev pub doing_at : Stage → List Leaf → ℕ → State → Doing
doing_at stage.Rest leaves session a = Resting
doing_at (stage.Begin read) leaves session a = Asked (Begin read) 1
doing_at (stage.Find call) leaves session a = Asked (call_in call a) find_left
doing_at (stage.Fill call wanted) leaves session a = Placed (call_in call a) wanted.table (7 + further_from call wanted.table wanted.leaf leaves)
doing_at (stage.Publish call target) leaves session a = Placed (call_in call a) target.table (6 + further_left call target leaves)
doing_at (stage.Validate call target) leaves session a = Placed (call_in call a) target.table (5 + further_left call target leaves)
doing_at (stage.Look call target) leaves session a = Placed (call_in call a) target.table (4 + further_left call target leaves)
doing_at (stage.Pass call target) leaves session a = Placed (call_in call a) target.table (3 + further_left call target leaves)
doing_at (stage.History call target) leaves session a = Decided (answers.Refused NotFound) (event_with session call target a.key (answers.Refused NotFound)) 3
doing_at (stage.ClearCursor call target) leaves session a = Decided a.answer (event_with session call target a.key a.answer) 2
doing_at (stage.Clear call target) leaves session a = Decided a.answer (event_with session call target a.key a.answer) 1
doing_at (stage.Reset cursor) leaves session a = Asked (Reset cursor) 1
doing_at (stage.Mark stamp left) leaves session a = Asked (Prepare stamp) (left + 1)
doing_at (stage.Release stamp) leaves session a = Asked (Prepare stamp) 1
doing_at (stage.Order stamps left) leaves session a = Asked (commit_in stamps) (left + (length a.written + decide_left a))
doing_at (stage.Stamp stamps left) leaves session a = stamping a.phase stamps left a
doing_at (stage.Decide stamps) leaves session a = Asked (commit_in stamps) (decide_left a)
doing_at stage.Resolve leaves session a = Asked Rollback (decide_left a)
doing_at (stage.Undo left) leaves session a = undoing a.phase left a
doing_at stage.Done leaves session a = Ending a.answer (done_left a)
doing_at (stage.Unpin cursor) leaves session a = Decided a.answer Nothing (unpins_left a)

abbrev pub doing_in : List Leaf → ℕ → State → Doing
doing_in leaves session a = doing_at a.stage leaves session a
