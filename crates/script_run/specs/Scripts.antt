-- What the lines of a script reply, what each leaves, and how a script ends.
use Rattle.std.specs.Prelude.{◌≡◌, ◌⊎◌, ◌<◌, ◌≤◌, ◌+◌, ◌-◌, ◌||◌, ℕ, zero, suc, Bool, true, false, MatchBool, List, [], ◌∷◌, ◌++◌, length, take, replicate, slice_index_or, slice_set, Option, None, Some, option_map}
use Rattle.limits.specs.declared.TheConstants.{SESSIONS_MAX}
use Rattle.failure.specs.Counts.{Rose}
use Rattle.failure.specs.declared.Fault.{Fault}
use Rattle.item.specs.declared.formats.Format.TheVariants.{U}
use Rattle.item.specs.declared.formats.Formats.{Formats}
use Rattle.wt_code.specs.declared.answers.Answer.{Answer}
use Rattle.wt_code.specs.declared.answers.Answer.TheVariants as answers
use Rattle.wt_code.specs.declared.refusals.Refusal.{Refusal}
use Rattle.wt_code.specs.declared.refusals.Refusal.TheVariants as refusal
use Rattle.wt_code.specs.declared.refusals.Busy.TheVariants.{Evicting as EvictingFrame}
use Rattle.wt_code.specs.declared.refusals.Limit.TheVariants.{Sessions}
use Rattle.wt_code.specs.declared.refusals.Invalid.TheVariants.{InCall, Text}
use Rattle.wt_io.specs.Streams.{AtEnd}
use Rattle.wt_io.specs.declared.streams.Source.{Ghosts as SourceGhosts}
use Rattle.wt_io.specs.declared.streams.Sink.{Ghosts as SinkGhosts}
use Rattle.kv_model.specs.History.{named, tables}
use Rattle.kv_model.specs.Machine.{Checkpoint as RunningCheckpoint, CheckpointFinish, GoDown, Machine, Completed, after as after_event, of_some}
use Rattle.kv_model.specs.Calls.{Call as Asked, CkptFinish, CkptStart, CkptStep, SystemAnswers, rolled_back}
use Rattle.kv_model.specs.Content.{Content, OpensAs, start}
use Rattle.kv_model.specs.Decisions.{is_there}
use Rattle.kv_model.specs.Holds.{Member}
use Rattle.stored.specs.Stored.{Reads}
use Rattle.wt_calls.specs.declared.call.Call.{Call}
use Rattle.wt_calls.specs.declared.call.Call.TheVariants as call
use Rattle.wt_calls.specs.declared.system_call.SystemCall.{SystemCall}
use Rattle.wt_calls.specs.declared.system_call.SystemCall.TheVariants as system
use Rattle.call_steps.specs.declared.stage.Target.{Target}
use Rattle.call_steps.specs.declared.reply.Reply.{Reply as Told}
use Rattle.call_steps.specs.declared.reply.Reply.TheVariants as told
use Rattle.script_text.specs.declared.line.Actor.{Actor}
use Rattle.script_text.specs.declared.line.Actor.TheVariants as actor
use Rattle.script_text.specs.declared.line.Line.{Line}
use Rattle.script_text.specs.declared.line.Control.{Control}
use Rattle.script_text.specs.declared.line.Control.TheVariants.{Checkpoint, Close, Crash, Frames}
use Rattle.script_text.specs.declared.line.Line.TheVariants.{Whole, Start, Step, Finish, Control as OfAll}
use Rattle.script_text.specs.declared.replies.Reply.{Reply}
use Rattle.script_text.specs.declared.replies.Reply.TheVariants.{Started, More, Answered}
use Rattle.script_text.specs.Grammar.{IsLine}
use Rattle.script_text.specs.Replies.{line_of_reply}
use Rattle.script_text.specs.Stored.{table_of_items, stored_call}
use Rattle.row_page.specs.Rows.{Row}
use Rattle.tree_dir.specs.declared.leaf.Leaf.{Leaf}
use Rattle.engine_world.specs.Stands.{Engine, Stands}
use Rattle.engine_world.specs.Worlds.{Records, World}
use Rattle.engine_world.specs.Systems.{checkpointed}
use Rattle.engine.specs.declared.step.Actor.{Actor as EngineActor}
use Rattle.engine.specs.declared.step.Actor.TheVariants as by
use Rattle.engine.specs.declared.step.Step.TheVariants as step
use Rattle.engine.specs.declared.turning.Evicting.{Evicting}
use Rattle.engine.specs.declared.turning.EvictStage.{EvictStage}
use Rattle.engine.specs.declared.turning.EvictStage.TheVariants.{Find}
use Rattle.engine.specs.Turning.{evicting_by, found_in, staged}
use Rattle.engine.specs.Runs.{MayStep, IsBuilt}
use Rattle.engine.specs.Whole.{with_session_more}
use Rattle.ckpt_step.specs.declared.lives.Lone.{Lone}
use Rattle.engine_store.specs.declared.progress.Progress.{Progress}
use Rattle.engine_store.specs.Answers.{CheckpointTakes, CloseTakes, Installs, IsLeft, RefusesReopening}
use Rattle.engine_store.specs.Calls.{EndsBy, MayAnswerOn, MayStepOn}
use Rattle.engine_store.specs.Devices.{Device, Installed, IsLater as IsLaterDevice, IsRead, KeepsCheckpoint, may_open_to}
use Rattle.engine_store.specs.Beside.{IsCauseBeside}
use Rattle.engine_store.specs.EvictCalls.{EvictAnswers}
use Rattle.engine_store.specs.EvictSteps.{GoesTo, LeadsTo, TakesMemory, around_beside}
use Rattle.engine_store.specs.Finishes.{IsFinishLeft, around_finish, around_start}
use Rattle.engine_store.specs.Full.{IsFullAt}
use Rattle.engine_store.specs.Progress.{around_step, first_place, has_left, left_of, passed}
use Rattle.script_run.specs.declared.checkpointing.CheckpointStage.{CheckpointStage}
use Rattle.script_run.specs.declared.checkpointing.CheckpointStage.TheVariants as stage
use Rattle.script_run.specs.declared.checkpointing.CheckpointTurn.{CheckpointTurn}
use Rattle.script_run.specs.declared.kept.Kept.{Kept}
use Rattle.script_run.specs.declared.script.End.{End}
use Rattle.script_run.specs.declared.script.End.TheVariants.{Through, Stopped, InputFailed, OutputFailed}
use Rattle.script_run.specs.declared.script.TheConstants.{INPUT_MAX}
use Rattle.script_run.specs.Checkpointing.{asked_in, checkpointing_by, checkpointing_of, finds_leaf, turn_of}

-- between two lines
pub record Script : Type 0 where
  pub world : World
  pub device : Device
  -- the checkpoint that the device had before the first line
  pub first : Completed
  -- those that lines installed since, or were installing
  pub made : List Installed
  -- what is kept of calls that are started
  pub kept : Kept
  -- how many frames there are for leaves
  pub frames : ℕ
  -- how far the steps of the checkpoint that runs have come, if one does
  pub progress : Option Progress

abbrev pub plain : Formats
plain = record { key = U; value = U }

-- nothing is started
abbrev pub nothing_kept : Kept
nothing_kept = record { formats = replicate SESSIONS_MAX plain; evicting = None ∷ None ∷ None ∷ None ∷ []; checkpointing = None ∷ None ∷ None ∷ None ∷ [] }

-- the formats of the items of a call; plain where its table is not there
abbrev pub formats_in : Machine → Call → Formats
formats_in m made = of_some plain (λ name. of_some plain (λ t. t.formats) (named name (tables m.history))) (table_of_items made)

-- a call that no event of the engine makes
abbrev pub IsUnbuilt : Call → Type 0
IsUnbuilt (call.Session session made) = ⊥
IsUnbuilt (call.System number made) = IsBuilt made → ⊥

-- one of a checkpoint that runs beside other work
abbrev pub IsOfRunning : SystemCall → Type 0
IsOfRunning system.StartCheckpoint = Unit {0}
IsOfRunning system.StepCheckpoint = Unit {0}
IsOfRunning system.FinishCheckpoint = Unit {0}
IsOfRunning _ = ⊥

-- a call of the system that is made, whole or by steps: one that events make, an eviction, or one of such a checkpoint
abbrev pub IsMade : SystemCall → Type 0
IsMade (system.Create table formats) = Unit {0}
IsMade (system.SetStamps oldest stable) = Unit {0}
IsMade (system.Evict table key) = Unit {0}
IsMade system.StartCheckpoint = Unit {0}
IsMade system.StepCheckpoint = Unit {0}
IsMade system.FinishCheckpoint = Unit {0}
IsMade _ = ⊥

abbrev pub IsCheckpointCall : Call → Type 0
IsCheckpointCall (call.Session session made) = ⊥
IsCheckpointCall (call.System number made) = IsOfRunning made

-- a call of a later stage
abbrev pub IsLaterCall : Call → Type 0
IsLaterCall (call.Session session made) = ⊥
IsLaterCall (call.System number made) = IsMade made → ⊥

abbrev pub IsLater : Line → Type 0
IsLater (Whole made) = IsLaterCall made
IsLater (Start made) = IsLaterCall made
IsLater (Step who) = ⊥
IsLater (Finish who) = ⊥
IsLater (OfAll asked) = ⊥

-- ---- actors

abbrev pub caller : Call → EngineActor
caller (call.Session session made) = by.Session session
caller (call.System number made) = by.System number

abbrev pub actor_in : Actor → EngineActor
actor_in (actor.Session session) = by.Session session
actor_in (actor.System number) = by.System number

-- sessions are opened, so many
abbrev pub opened_more : ℕ → World → World
opened_more zero w = w
opened_more (suc n) w = opened_more n (with_session_more w)

-- how many sessions are to be opened, so that the actor is there
abbrev pub missing : EngineActor → World → ℕ
missing (by.Session session) w = (session + 1) - length w.sessions
missing (by.System number) w = 0

-- why no session more is opened: memory is wanted, or there are as many as there may be
abbrev pub NoSession : Refusal → World → Type 0
NoSession r w = (r ≡ refusal.NoMemory) ⊎ ((r ≡ refusal.Limit Sessions) × (SESSIONS_MAX ≤ length w.sessions))

-- a session that is used is opened first, with all below it
abbrev pub Opens : EngineActor → World → (World → Type 0) → (Refusal → World → Type 0) → Type 0
Opens who w Goes Ends =
    Goes (opened_more (missing who w) w)
    ⊎ ((n : ℕ) × (r : Refusal) × (n < missing who w) × NoSession r (opened_more n w) × Ends r (opened_more n w))

-- the formats that are kept of the call that an actor has started
abbrev pub kept_formats : EngineActor → Kept → Formats
kept_formats (by.Session session) kept = slice_index_or kept.formats session plain
kept_formats (by.System number) kept = plain

abbrev pub kept_more : EngineActor → Formats → Kept → Kept
kept_more (by.Session session) formats kept = record kept { formats = slice_set kept.formats session formats }
kept_more (by.System number) formats kept = kept

-- ---- replies

abbrev pub in_script : Told → Reply
in_script told.Started = Started
in_script told.More = More
in_script (told.Answer answer) = Answered answer

-- nothing was made of the line
abbrev pub Refuses : Refusal → Script → World → Reply → Script → Type 0
Refuses r s w reply later = (reply ≡ Answered (answers.Refused r)) × (later ≡ record s { world = w })

-- why a leaf is kept from a call, which leaves the device so: memory was short, a read of it failed, the engine is down, in the world that the call has reached each frame has a leaf that may not go, or an eviction has its frame locked
abbrev pub CauseOn : Script → Device → World → World → Refusal → Type 0
CauseOn s device w now r = IsCauseBeside s.kept.evicting (Rose s.device.faults device.faults) (IsFullAt s.frames now) w.machine.fault r

-- the whole call is made, and the device read for it
pub record Answers (made : Call) (s : Script) (formats : Formats) (reply : Reply) (later : Script) (w : World) : Type 0 where
  pub formats_are : formats ≡ formats_in w.machine made
  pub answer : Answer (List ℕ)
  pub next : World
  pub device : Device
  pub read : IsRead s.device device
  pub answered : MayAnswerOn (CauseOn s device w) w (stored_call formats made) answer next
  pub told : reply ≡ Answered answer
  pub leaves : later ≡ record s { world = next; device = device }

-- what is kept after a call was to start
abbrev pub kept_after : Told → EngineActor → Formats → Kept → Kept
kept_after told.Started who formats kept = kept_more who formats kept
kept_after _ who formats kept = kept

-- the call is started; where its actor has one already, that is its answer
pub record Begins (made : Call) (s : Script) (formats : Formats) (reply : Reply) (later : Script) (w : World) : Type 0 where
  pub formats_are : formats ≡ formats_in w.machine made
  pub t : Told
  pub next : World
  pub device : Device
  pub read : IsRead s.device device
  pub stepped : MayStep w (step.Start (stored_call formats made)) t next
  pub told : reply ≡ in_script t
  pub leaves : later ≡ record s { world = next; device = device; kept = kept_after t (caller made) formats s.kept }

-- one step is made: a leaf that its call waits for is read first, or kept from it
pub record Goes (who : EngineActor) (s : Script) (formats : Formats) (reply : Reply) (later : Script) (w : World) : Type 0 where
  pub formats_are : formats ≡ kept_formats who s.kept
  pub t : Told
  pub next : World
  pub device : Device
  pub read : IsRead s.device device
  pub stepped : MayStepOn (CauseOn s device w) w (step.Go who) t next
  pub told : reply ≡ in_script t
  pub leaves : later ≡ record s { world = next; device = device }

-- the steps that are left are made
pub record Ends (who : EngineActor) (s : Script) (formats : Formats) (reply : Reply) (later : Script) (w : World) : Type 0 where
  pub formats_are : formats ≡ kept_formats who s.kept
  pub answer : Answer (List ℕ)
  pub next : World
  pub device : Device
  pub read : IsRead s.device device
  pub ended : EndsBy (CauseOn s device w) w who answer next
  pub told : reply ≡ Answered answer
  pub leaves : later ≡ record s { world = next; device = device }

-- ---- leaves that leave their frames

-- Leaves may have left their frames, and the machine is this one then: nobody sees it, but that calls which had found such a leaf may be told so.
pub record LeavesGone (s : Script) (next : Machine) (device : Device) (later : Script) : Type 0 where
  pub shelf : ℕ → List Row
  pub again : ℕ → Bool
  pub more : (session : ℕ) → s.world.again session ≡ true → again session ≡ true
  pub after : IsLaterDevice s.device device
  pub capacity : device.capacity ≡ s.device.capacity
  pub leaves : later ≡ record s { world = record s.world { machine = next; shelf = shelf; again = again }; device = device }

-- an engine that stands for the world with some history, by which it is told what keeps a leaf
pub record Seen (s : Script) : Type 0 where
  pub engine : Engine
  pub records : Records
  pub stands : Stands engine (record s.world { records = records })

-- The leaf of a key is evicted, in a whole call. lives: the leaves that were written since the last checkpoint. While the engine is up the device has the checkpoint that it had.
pub record Evicts (made : Call) (s : Script) (formats : Formats) (reply : Reply) (later : Script) : Type 0 where
  pub number : ℕ
  pub table : List ℕ
  pub key : List ℕ
  pub formats_are : formats ≡ formats_in s.world.machine made
  -- with its key as the table stores it
  pub is : stored_call formats made ≡ call.System number (system.Evict table key)
  pub answer : Answer (List ℕ)
  pub next : Machine
  pub device : Device
  pub seen : Seen s
  pub lives : List Lone
  pub answered : EvictAnswers (slice_index_or s.world.systems number None) (around_beside s.kept.evicting number None seen.engine lives s.device device s.world.machine table key) s.world.machine table key answer next
  pub keeps : next.fault ≡ None → KeepsCheckpoint s.device device
  pub told : reply ≡ Answered answer
  pub gone : LeavesGone s next device later

-- ---- evictions by steps

abbrev pub with_evicting : Script → List (Option Evicting) → Script
with_evicting s evicting = record s { kept = record s.kept { evicting = evicting } }

-- nothing was made of the line: its actor has a call that is not finished
abbrev pub RefusesInCall : Script → Reply → Script → Type 0
RefusesInCall s reply later = (reply ≡ Answered (answers.Refused (refusal.Invalid InCall))) × (later ≡ s)

-- it begins, unless its actor has another call
abbrev pub StartsEvicting : Option Asked → Script → ℕ → List ℕ → List ℕ → Reply → Script → Type 0
StartsEvicting None s number table key reply later = (reply ≡ Started) × (later ≡ with_evicting s (slice_set s.kept.evicting number (Some (record { table = table; key = key; stage = Find }))))
StartsEvicting (Some other) s number table key reply later = RefusesInCall s reply later

pub record BeginsEvicting (made : Call) (s : Script) (formats : Formats) (reply : Reply) (later : Script) : Type 0 where
  pub number : ℕ
  pub table : List ℕ
  pub key : List ℕ
  pub formats_are : formats ≡ formats_in s.world.machine made
  -- with its key as the table stores it
  pub is : stored_call formats made ≡ call.System number (system.Evict table key)
  pub starts : StartsEvicting (slice_index_or s.world.systems number None) s number table key reply later

-- a step behind which it goes on: nothing else is changed
pub record EvictionGoes (e : Engine) (number : ℕ) (x : Evicting) (s : Script) (reply : Reply) (later : Script) : Type 0 where
  pub next : EvictStage
  pub goes : GoesTo e s.world.machine s.kept.evicting number x.table x.key x.stage next
  pub told : reply ≡ More
  pub leaves : later ≡ with_evicting s (staged s.kept.evicting number next)

-- The step that ends it. While the engine is up the device has the checkpoint that it had. Memory is short only where the leaf is judged or written.
pub record EvictionEnds (e : Engine) (number : ℕ) (x : Evicting) (s : Script) (reply : Reply) (later : Script) : Type 0 where
  pub answer : Answer (List ℕ)
  pub next : Machine
  pub device : Device
  pub lives : List Lone
  pub answered : EvictAnswers (slice_index_or s.world.systems number None) (around_beside s.kept.evicting number (Some x.stage) e lives s.device device s.world.machine x.table x.key) s.world.machine x.table x.key answer next
  pub keeps : next.fault ≡ None → KeepsCheckpoint s.device device
  pub short : answer ≡ answers.Refused refusal.NoMemory → TakesMemory x.stage
  pub told : reply ≡ Answered answer
  pub gone : LeavesGone (with_evicting s (slice_set s.kept.evicting number None)) next device later

-- one step of the eviction of an actor
abbrev pub EvictionTurns : ℕ → Evicting → Script → Reply → Script → Type 0
EvictionTurns number x s reply later = (v : Seen s) × (EvictionGoes v.engine number x s reply later ⊎ EvictionEnds v.engine number x s reply later)

-- all that are left
pub record EvictionRests (number : ℕ) (s : Script) (reply : Reply) (later : Script) : Type 0 where
  pub seen : Seen s
  pub count : ℕ
  pub evicting : List (Option Evicting)
  pub leads : LeadsTo count seen.engine s.world.machine number s.kept.evicting evicting
  pub last : Evicting
  pub there : evicting_by evicting number ≡ Some last
  pub ends : EvictionEnds seen.engine number last (with_evicting s evicting) reply later

-- ---- a checkpoint that runs beside other work

-- how far its steps have come behind a start that was answered so
abbrev pub begun_with : Answer (List ℕ) → Option Progress → Option Progress
begun_with answers.Done progress = Some first_place
begun_with _ progress = progress

-- behind a step: it was refused, or took the next leaf of these, where one was left
abbrev pub stepped_with : Answer (List ℕ) → Machine → List Leaf → Option Progress → Option Progress
stepped_with (answers.Refused r) m leaves progress = progress
stepped_with _ m leaves progress = option_map (passed m leaves) progress

-- behind a finish, while it runs still
abbrev pub while_running : Option RunningCheckpoint → Option Progress → Option Progress
while_running None progress = None
while_running (Some c) progress = progress

pub record StartsCheckpoint (s : Script) (reply : Reply) (later : Script) : Type 0 where
  pub answer : Answer (List ℕ)
  pub next : Machine
  pub answered : SystemAnswers (around_start s.device) s.world.machine CkptStart answer next
  pub told : reply ≡ Answered answer
  pub leaves : later ≡ record s { world = record s.world { machine = next }; progress = begun_with answer s.progress }

-- The next leaf is taken, where one is left: nothing else is changed.
pub record StepsCheckpoint (s : Script) (reply : Reply) (later : Script) : Type 0 where
  pub seen : Seen s
  pub answer : Answer (List ℕ)
  pub answered : SystemAnswers (around_step (left_of s.world.machine seen.engine.hub.dir.leaves s.progress)) s.world.machine CkptStep answer s.world.machine
  pub told : reply ≡ Answered answer
  pub leaves : later ≡ record s { progress = stepped_with answer s.world.machine seen.engine.hub.dir.leaves s.progress }

-- It is finished, or is not; lives: the leaves that were written since the last one.
pub record FinishesCheckpoint (s : Script) (reply : Reply) (later : Script) : Type 0 where
  pub seen : Seen s
  pub lives : List Lone
  pub answer : Answer (List ℕ)
  pub next : Machine
  pub device : Device
  pub made : List Installed
  pub behind : IsFinishLeft s.device device s.world.machine next answer
  pub answered : SystemAnswers (around_finish (left_of s.world.machine seen.engine.hub.dir.leaves s.progress) seen.engine s.world lives s.device device) s.world.machine CkptFinish answer next
  pub installs : Installs answer (after_event s.world.machine CheckpointFinish).completed device next s.made made
  pub told : reply ≡ Answered answer
  pub leaves : later ≡ record s { world = record s.world { machine = next }; device = device; made = made; progress = while_running next.checkpoint s.progress }

abbrev pub RunsCheckpoint : SystemCall → Script → Reply → Script → Type 0
RunsCheckpoint system.StartCheckpoint s reply later = StartsCheckpoint s reply later
RunsCheckpoint system.StepCheckpoint s reply later = StepsCheckpoint s reply later
RunsCheckpoint system.FinishCheckpoint s reply later = FinishesCheckpoint s reply later
RunsCheckpoint _ s reply later = ⊥

-- unless its actor has another call
abbrev pub RunsUnless : Option Asked → SystemCall → Script → Reply → Script → Type 0
RunsUnless None made s reply later = RunsCheckpoint made s reply later
RunsUnless (Some other) made s reply later = IsOfRunning made × RefusesInCall s reply later

abbrev pub CheckpointReplies : Call → Script → Formats → Reply → Script → Type 0
CheckpointReplies (call.Session session made) s formats reply later = ⊥
CheckpointReplies (call.System number made) s formats reply later = (formats ≡ plain) × RunsUnless (slice_index_or s.world.systems number None) made s reply later

-- ---- calls of such a checkpoint by steps

abbrev pub with_checkpointing : Script → List (Option CheckpointStage) → Script
with_checkpointing s checkpointing = record s { kept = record s.kept { checkpointing = checkpointing } }

-- the call of the actor of this number is at this stage, or is none
abbrev pub staged_at : Script → ℕ → Option CheckpointStage → Script
staged_at s number stage = with_checkpointing s (slice_set s.kept.checkpointing number stage)

-- it begins, unless its actor has another call
abbrev pub StartsCheckpointCall : Option Asked → Script → ℕ → CheckpointTurn → Reply → Script → Type 0
StartsCheckpointCall None s number turn reply later = (reply ≡ Started) × (later ≡ staged_at s number (Some (stage.Asked turn)))
StartsCheckpointCall (Some other) s number turn reply later = RefusesInCall s reply later

pub record BeginsCheckpointCall (made : Call) (s : Script) (reply : Reply) (later : Script) : Type 0 where
  pub number : ℕ
  pub turn : CheckpointTurn
  pub is : made ≡ call.System number (asked_in turn)
  pub starts : StartsCheckpointCall (slice_index_or s.world.systems number None) s number turn reply later

-- the steps that are left: it is made, and is at no stage any more
abbrev pub CheckpointCallEnds : ℕ → CheckpointStage → Script → Reply → Script → Type 0
CheckpointCallEnds number at s reply later = RunsCheckpoint (asked_in (turn_of at)) (staged_at s number None) reply later

-- A step: one that asks for a step of the checkpoint and finds that a leaf is left goes on, and nothing else is changed; any other is made.
pub record CheckpointCallTurns (number : ℕ) (at : CheckpointStage) (s : Script) (reply : Reply) (later : Script) : Type 0 where
  pub seen : Seen s
  pub turns : MatchBool (finds_leaf at (has_left s.world.machine (left_of s.world.machine seen.engine.hub.dir.leaves s.progress)))
      ((reply ≡ More) × (later ≡ staged_at s number (Some stage.Found)))
      (CheckpointCallEnds number at s reply later)

-- ---- lines that are asked of the device

-- The world of an engine as an opening makes it, with these rows in leaves that are in no frame: no session, and nothing started. The older versions that it has are those that its store keeps, whatever a world says of them.
abbrev pub opened_world : Machine → (ℕ → List Row) → World
opened_world m shelf = record { machine = m; sessions = []; systems = None ∷ None ∷ None ∷ None ∷ []; shelf = shelf; records = λ id key. []; again = λ session. false }

-- a call of the actor of the system of this number is kept
abbrev pub has_call_kept : Kept → ℕ → Bool
has_call_kept kept number = is_there (evicting_by kept.evicting number) || is_there (checkpointing_by kept.checkpointing number)

-- `sys` has a call that is not finished
abbrev pub is_busy : Script → Bool
is_busy s = is_there (slice_index_or s.world.systems 0 None) || has_call_kept s.kept 0

-- a line of `sys` that is no call: refused where `sys` has such a call
abbrev pub BySystem : Script → Reply → Script → Type 0 → Type 0
BySystem s reply later Goes = MatchBool (is_busy s) ((reply ≡ Answered (answers.Refused (refusal.Invalid InCall))) × (later ≡ s)) Goes

abbrev pub on_device : Script → Machine → Device → List Installed → Script
on_device s m device made = record s { world = record s.world { machine = m }; device = device; made = made }

-- a checkpoint in one event, behind which leaves may have left their frames; lives: the leaves that were written since the last one
pub record Checkpoints (s : Script) (reply : Reply) (later : Script) : Type 0 where
  pub answer : Answer (List ℕ)
  pub next : Machine
  pub device : Device
  pub made : List Installed
  pub behind : IsLeft s.device device s.world.machine next answer
  pub lives : List Lone
  pub takes : CheckpointTakes lives s.device device s.world.machine answer next
  pub installs : Installs answer (checkpointed s.world.machine).completed device next s.made made
  pub told : reply ≡ Answered answer
  pub shelf : ℕ → List Row
  pub leaves : later ≡ on_device (record s { world = record s.world { shelf = shelf } }) next device made

-- a close; lives: the leaves that were written since the last checkpoint
pub record Closes (s : Script) (answer : Answer (List ℕ)) (later : Script) : Type 0 where
  pub next : Machine
  pub device : Device
  pub made : List Installed
  pub behind : IsLeft s.device device (rolled_back s.world.machine) next answer
  pub lives : List Lone
  pub takes : CloseTakes lives s.device device s.world answer next
  pub installs : Installs answer (checkpointed (rolled_back s.world.machine)).completed device next s.made made
  pub leaves : later ≡ on_device s next device made

-- an eviction has found its leaf, and is not finished; an engine that is down, and a checkpoint that runs, tell another refusal first
pub record ClosesBusy (s : Script) (reply : Reply) (later : Script) : Type 0 where
  pub number : ℕ
  pub evicting : Evicting
  pub there : evicting_by s.kept.evicting number ≡ Some evicting
  pub target : Target
  pub found : found_in evicting.stage ≡ Some target
  pub up : s.world.machine.fault ≡ None
  pub idle : s.world.machine.checkpoint ≡ None
  pub told : reply ≡ Answered (answers.Refused (refusal.Busy (EvictingFrame target.frame)))
  pub same : later ≡ s

-- Memory is forgotten and the device opened: to one of the checkpoints to which it may open, with so many frames and no session.
pub record Reopens (frames : ℕ) (s later : Script) : Type 0 where
  pub content : Content
  pub reads : Reads s.device.seen content
  pub one : (k : Completed) × Member k (may_open_to (s.first ∷ []) s.made) × OpensAs content k
  pub device : Device
  pub after : IsLaterDevice s.device device
  pub seen : device.seen ≡ s.device.seen
  pub capacity : device.capacity ≡ s.device.capacity
  pub shelf : ℕ → List Row
  pub leaves : later ≡ record s { world = opened_world (start content) shelf; device = device; kept = nothing_kept; frames = frames; progress = None }

-- it is not opened, and the engine before it is the last
pub record NotReopened (s : Script) (r : Refusal) (later : Script) : Type 0 where
  pub device : Device
  pub after : IsLaterDevice s.device device
  pub seen : device.seen ≡ s.device.seen
  pub capacity : device.capacity ≡ s.device.capacity
  pub why : RefusesReopening s.device device r
  pub leaves : later ≡ record s { device = device }

abbrev pub ControlReplies : Control → Script → Reply → Script → Type 0
ControlReplies Checkpoint s reply later = BySystem s reply later (Checkpoints s reply later)
ControlReplies Close s reply later =
    BySystem s reply later
    (ClosesBusy s reply later
    ⊎ (((r : Refusal) × Closes s (answers.Refused r) later × (reply ≡ Answered (answers.Refused r)))
    ⊎ ((middle : Script) × Closes s answers.Done middle × Reopens middle.frames middle later × (reply ≡ Answered answers.Done))))
ControlReplies Crash s reply later = Reopens s.frames s later × (reply ≡ Answered answers.Done)
ControlReplies (Frames count) s reply later = Reopens count s later × (reply ≡ Answered answers.Done)

-- An opening that is refused ends the script.
abbrev pub StopsBy : Line → Script → Refusal → Script → Type 0
StopsBy (OfAll Close) s r later = (is_busy s ≡ false) × ((middle : Script) × Closes s answers.Done middle × NotReopened middle r later)
StopsBy (OfAll Crash) s r later = NotReopened s r later
StopsBy (OfAll (Frames count)) s r later = NotReopened s r later
StopsBy _ s r later = ⊥

-- ---- the reply to a line, in these formats, and what it leaves

-- of an actor of which no call is kept
abbrev pub ActorReplies : Line → Script → Formats → Reply → Script → Type 0
ActorReplies (Whole made) s formats reply later =
    Opens (caller made) s.world (λ w. Answers made s formats reply later w ⊎ Refuses refusal.NoMemory s w reply later) (λ r w. Refuses r s w reply later)
    ⊎ (Evicts made s formats reply later ⊎ CheckpointReplies made s formats reply later)
ActorReplies (Start made) s formats reply later =
    Opens (caller made) s.world (λ w. Begins made s formats reply later w ⊎ Refuses refusal.NoMemory s w reply later) (λ r w. Refuses r s w reply later)
    ⊎ (BeginsEvicting made s formats reply later ⊎ BeginsCheckpointCall made s reply later)
ActorReplies (Step who) s formats reply later = Opens (actor_in who) s.world (λ w. Goes (actor_in who) s formats reply later w) (λ r w. Refuses r s w reply later)
ActorReplies (Finish who) s formats reply later = Opens (actor_in who) s.world (λ w. Ends (actor_in who) s formats reply later w) (λ r w. Refuses r s w reply later)
ActorReplies (OfAll asked) s formats reply later = ⊥

-- of one that has this eviction
abbrev pub EvictionReplies : Line → ℕ → Evicting → Script → Reply → Script → Type 0
EvictionReplies (Whole made) number x s reply later = RefusesInCall s reply later
EvictionReplies (Start made) number x s reply later = RefusesInCall s reply later
EvictionReplies (Step who) number x s reply later = EvictionTurns number x s reply later
EvictionReplies (Finish who) number x s reply later = EvictionRests number s reply later
EvictionReplies (OfAll asked) number x s reply later = ⊥

-- of one that has a call of a checkpoint at this stage
abbrev pub CheckpointCallReplies : Line → ℕ → CheckpointStage → Script → Reply → Script → Type 0
CheckpointCallReplies (Whole made) number at s reply later = RefusesInCall s reply later
CheckpointCallReplies (Start made) number at s reply later = RefusesInCall s reply later
CheckpointCallReplies (Step who) number at s reply later = CheckpointCallTurns number at s reply later
CheckpointCallReplies (Finish who) number at s reply later = CheckpointCallEnds number at s reply later
CheckpointCallReplies (OfAll asked) number at s reply later = ⊥

-- whose line it is; one that is asked of the device is of `sys`
abbrev pub actor_of : Line → EngineActor
actor_of (Whole made) = caller made
actor_of (Start made) = caller made
actor_of (Step who) = actor_in who
actor_of (Finish who) = actor_in who
actor_of (OfAll asked) = by.System 0

-- its number, where it is of the system
abbrev pub system_in : EngineActor → Option ℕ
system_in (by.Session session) = None
system_in (by.System number) = Some number

-- the eviction of an actor of the system; a session has none
abbrev pub eviction_of : EngineActor → List (Option Evicting) → Option Evicting
eviction_of (by.Session session) evicting = None
eviction_of (by.System number) evicting = evicting_by evicting number

abbrev pub number_of : EngineActor → ℕ
number_of (by.Session session) = 0
number_of (by.System number) = number

-- no call of the actor is kept
abbrev pub IsFree : EngineActor → Kept → Type 0
IsFree who kept = (eviction_of who kept.evicting ≡ None) × (checkpointing_of who kept.checkpointing ≡ None)

abbrev pub RepliesBy : Option Evicting → Option CheckpointStage → Line → Script → Formats → Reply → Script → Type 0
RepliesBy (Some x) at asked s formats reply later = EvictionReplies asked (number_of (actor_of asked)) x s reply later
RepliesBy None (Some at) asked s formats reply later = CheckpointCallReplies asked (number_of (actor_of asked)) at s reply later
RepliesBy None None asked s formats reply later = ActorReplies asked s formats reply later

abbrev pub RepliesTo : Line → Script → Formats → Reply → Script → Type 0
RepliesTo asked s formats reply later = RepliesBy (eviction_of (actor_of asked) s.kept.evicting) (checkpointing_of (actor_of asked) s.kept.checkpointing) asked s formats reply later

abbrev pub Replies : Line → Script → Formats → Reply → Script → Type 0
Replies (OfAll asked) s formats reply later = (formats ≡ plain) × ControlReplies asked s reply later
Replies (Whole made) s formats reply later = RepliesTo (Whole made) s formats reply later
Replies (Start made) s formats reply later = RepliesTo (Start made) s formats reply later
Replies (Step who) s formats reply later = RepliesTo (Step who) s formats reply later
Replies (Finish who) s formats reply later = RepliesTo (Finish who) s formats reply later

-- ---- what goes behind a line

-- the machine is the same, and the device has the checkpoint that it had
pub record GoneUp (s later : Script) : Type 0 where
  pub device : Device
  pub gone : LeavesGone s s.world.machine device later
  pub keeps : KeepsCheckpoint s.device device

-- a write or a sync of the device failed, which no reply tells, and the machine is down
pub record GoneDown (s later : Script) : Type 0 where
  pub fault : Fault
  pub device : Device
  pub gone : LeavesGone s (after_event s.world.machine (GoDown fault)) device later
  pub rose : Rose s.device.faults device.faults

abbrev pub GoneBehind : Script → Script → Type 0
GoneBehind s later = GoneUp s later ⊎ GoneDown s later

-- behind a line of an actor; nothing is done behind one that is asked of the device
abbrev pub Behind : Line → Script → Script → Type 0
Behind (Whole made) s later = GoneBehind s later
Behind (Start made) s later = GoneBehind s later
Behind (Step who) s later = GoneBehind s later
Behind (Finish who) s later = GoneBehind s later
Behind (OfAll asked) s later = later ≡ s

-- the reply to a line, and what it and what goes behind it leave
abbrev pub RunsLine : Line → Script → Formats → Reply → Script → Type 0
RunsLine asked s formats reply later = (middle : Script) × Replies asked s formats reply middle × Behind asked middle later

-- ---- refusals

-- the refusal that a reply tells, if it does
abbrev pub refusals_in : Reply → List Refusal
refusals_in (Answered (answers.Refused r)) = r ∷ []
refusals_in _ = []

abbrev pub listed : Option Refusal → List Refusal
listed None = []
listed (Some r) = r ∷ []

-- ---- runs

-- facts of a run's input and output
pub record Outside : Type 1 where
  -- a read of the input failed
  pub input_failed : Type 0
  -- the input was read to its end
  pub input_ended : Type 0
  -- a write of the output failed
  pub output_failed : Type 0

-- the same of streams, before and after
abbrev pub outside : {S K : Type 0} → SourceGhosts S → SinkGhosts K → S → S → K → K → Outside
outside s k input input_now out out_now = record {
  input_failed = Rose (s.fault_count input) (s.fault_count input_now);
  input_ended = AtEnd (s.left input_now);
  output_failed = Rose (k.fault_count out) (k.fault_count out_now);
}

-- what is printed, the refusals that stand in it, in their order, and how it ended
pub record Ran : Type 0 where
  pub text : List ℕ
  pub replies : List Refusal
  pub last : Script
  pub end : End

-- before the first line
abbrev pub fresh : World → Device → (frames : ℕ) → Option Progress → Script
fresh w device frames progress = record { world = w; device = device; first = w.machine.completed; made = []; kept = nothing_kept; frames = frames; progress = progress }

abbrev pub ends : End → Script → Ran
ends end s = record { text = []; replies = []; last = s; end = end }

abbrev pub prints : List ℕ → Reply → Ran → Ran
prints line reply ran = record ran { text = line ++ 10 ∷ ran.text; replies = refusals_in reply ++ ran.replies }

-- the line is none, is of a later stage, or has a byte behind those that an input may have
abbrev pub IsNone : ℕ → List ℕ → Type 0
IsNone used text = ((asked : Line) → IsLine text asked → IsLater asked) ⊎ (INPUT_MAX < used + length text)

-- What is printed of a reply and what follows: all of it and the lines behind it, a front of it where the output fails, or nothing for want of memory. The last two end the run.
abbrev pub Prints : Outside → List ℕ → (Ran → Type 0) → List (List ℕ) → Reply → Script → Ran → Type 0
Prints o line Rest texts reply later ran =
    ((rest : Ran) × (ran ≡ prints line reply rest) × Rest rest)
    ⊎ (((n : ℕ) × (texts ≡ []) × o.output_failed × (n < length (line ++ 10 ∷ [])) × (ran ≡ record (ends OutputFailed later) { text = take n (line ++ 10 ∷ []) }))
    ⊎ ((texts ≡ []) × (ran ≡ ends (Stopped refusal.NoMemory) later)))

-- The lines in order, the first of them with this number, behind so many bytes of lines with their newlines. A line that is none, an opening that is refused, want of memory and a stream that fails end the run; a refusal that a line replies does not.
abbrev pub RunsLines : Outside → ℕ → ℕ → List (List ℕ) → Script → Ran → Type 0
RunsLines o at used [] s ran =
    (o.input_ended × (ran ≡ ends Through s)) ⊎ ((o.input_failed × (ran ≡ ends InputFailed s)) ⊎ (ran ≡ ends (Stopped refusal.NoMemory) s))
RunsLines o at used (text ∷ texts) s ran =
    (IsNone used text × (texts ≡ []) × (ran ≡ ends (Stopped (refusal.Invalid (Text at))) s))
    ⊎ (((texts ≡ []) × (ran ≡ ends (Stopped refusal.NoMemory) s))
    ⊎ ((used + length text ≤ INPUT_MAX) × (asked : Line) × IsLine text asked × (IsLater asked → ⊥)
    × (((r : Refusal) × (later : Script) × StopsBy asked s r later × (texts ≡ []) × (ran ≡ ends (Stopped r) later))
    ⊎ ((formats : Formats) × (reply : Reply) × (later : Script) × RunsLine asked s formats reply later
    × Prints o (line_of_reply formats reply) (λ rest. RunsLines o (at + 1) (used + (length text + 1)) texts later rest) texts reply later ran))))

-- of the refusals that a script replies, a fault of the disk and want of memory count
abbrev pub counts : Refusal → Bool
counts refusal.DiskFault = true
counts refusal.NoMemory = true
counts _ = false

abbrev pub first_of : List Refusal → Option Refusal
first_of [] = None
first_of (r ∷ later) = Some r
