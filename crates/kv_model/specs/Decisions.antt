-- What each call answers where the machine determines it, and the event that it makes. Its checks are lists, in the order of refusals.
use Rattle.std.specs.Prelude.{◌≡◌, ℕ, ◌+◌, Bool, true, false, not, ◌&&◌, ◌==◌, nat_lt, nat_le, List, [], ◌∷◌, ◌++◌, length, Option, Some, None, if◌then◌else◌}
use Rattle.std.specs.List.{list_all}
use Rattle.limits.specs.declared.TheConstants.{KEY_MAX, VALUE_MAX, TABLE_NAME_MAX, TABLES_MAX, SESSIONS_MAX, NUMBER_MAX}
use Rattle.item.specs.declared.Change.{Change}
use Rattle.item.specs.declared.Format.{Format}
use Rattle.item.specs.declared.Format.TheVariants.{S, U}
use Rattle.item.specs.declared.Formats.{Formats}
use Rattle.wt_code.specs.declared.refusals.Refusal.{Refusal}
use Rattle.wt_code.specs.declared.refusals.Refusal.TheVariants.{Rollback, DuplicateKey, NotFound, Panic, PrepareConflict, NoTable, Exists, NoSpace, DiskFault, Corrupt}
use Rattle.wt_code.specs.declared.refusals.Refusal.TheVariants as told
use Rattle.wt_code.specs.declared.refusals.Invalid.{Invalid}
use Rattle.wt_code.specs.declared.refusals.Invalid.TheVariants as why
use Rattle.wt_code.specs.declared.refusals.Busy.{Busy}
use Rattle.wt_code.specs.declared.refusals.Busy.TheVariants as who
use Rattle.wt_code.specs.declared.refusals.Limit.TheVariants as counted
use Rattle.kv_model.specs.History.{Table, Write, tables, named, put_of}
use Rattle.kv_model.specs.Machine.{Machine, Transaction, Phase, Running, Failed, Prepared, Resolving, Leaving, transaction_of, of_some, Event, OpenSession, BeginAt, DrawId, AcceptWrite, RefuseWrite, PrepareAt, CommitAt, StartLeaving, EndTransaction, CreateTable, SetStamps, RollbackToStable, CheckpointStart, CheckpointFinish, CheckpointDrop, GoDown, Nothing}
use Rattle.kv_model.specs.Outside.{Storing, Stored, NoPlace, ReadFailed, Damaged, WriteFailed}
use Rattle.kv_model.specs.Reads.{ReadAnswer, Value, Conflict, MayWrite, MustNotWrite, present}
use Rattle.kv_model.specs.Refusals.{first_of, stamp_of, or_stamp, durable_below, begin_rules, prepare_rules, commit_rules, resolve_rules, set_rules}

pub data Outcome : Type 0 where
  -- the call is done, or goes on after this event
  Done : Outcome
  Gives : (value : List ℕ) → Outcome
  GivesRow : (key value : List ℕ) → Outcome
  -- a leaf is left, or none, after a step of a checkpoint
  Left : Outcome
  End : Outcome
  -- a commit or rollback that was decided before goes on to the answer that it had then
  Resumes : Outcome
  Refused : (refusal : Refusal) → Outcome

-- a refusal without an event
abbrev pub refused : Refusal → Outcome × Event
refused refusal = (Refused refusal, Nothing)

abbrev pub invalid : Invalid → Outcome × Event
invalid reason = refused (told.Invalid reason)

-- the first check that holds refuses; else the call goes on
abbrev pub checked : List (Bool × Refusal) → Outcome × Event → Outcome × Event
checked checks go = of_some go refused (first_of checks)

-- the same for the stamp rules, whose refusal may be made by an event
abbrev pub ruled : List (Bool × Invalid) → Event → Event → Outcome × Event
ruled rules event refusal = of_some (Done, event) (λ reason. (Refused (told.Invalid reason), refusal)) (first_of rules)

-- at each event of the hub, where a fault is told before all else
abbrev pub while_up : Machine → Outcome × Event → Outcome × Event
while_up m go = of_some go (λ fault. refused (Panic fault)) m.fault

abbrev pub with_session : Machine → ℕ → (Transaction → Outcome × Event) → Outcome × Event
with_session m session go = of_some (invalid why.NoTxn) go (transaction_of m session)

-- the state of a session, for a call that is neither Begin nor Commit nor Rollback
abbrev pub in_state : Phase → Outcome × Event → Outcome × Event
in_state Running go = go
in_state Failed go = invalid why.FailedTxn
in_state Leaving go = invalid why.FailedTxn
in_state (Prepared stamp) go = invalid why.Prepared
in_state Resolving go = invalid why.Prepared

abbrev pub running_session : Machine → ℕ → (Transaction → Outcome × Event) → Outcome × Event
running_session m session go = with_session m session (λ t. in_state t.phase (go t))

-- the lowest session with a transaction that passes
abbrev pub first_session : (Transaction → Bool) → ℕ → List (Option Transaction) → Option ℕ
first_session test at [] = None
first_session test at (None ∷ later) = first_session test (at + 1) later
first_session test at (Some t ∷ later) = if test t then Some at else first_session test (at + 1) later

abbrev pub is_resolving : Phase → Bool
is_resolving Resolving = true
is_resolving _ = false

abbrev pub is_there : {A : Type 0} → Option A → Bool
is_there None = false
is_there (Some a) = true

-- refused for the session that is found
abbrev pub unless_found : Option ℕ → (ℕ → Busy) → Outcome × Event → Outcome × Event
unless_found session busy go = of_some go (λ s. refused (told.Busy (busy s))) session

-- ---- arguments

-- a byte of a table's name: no control byte, no space, no colon
abbrev pub is_name_byte : ℕ → Bool
is_name_byte b = nat_lt 32 b && (not (b == 58) && not (b == 127))

abbrev pub is_name : List ℕ → Bool
is_name name = nat_lt 0 (length name) && (nat_le (length name) TABLE_NAME_MAX && list_all is_name_byte name)

abbrev pub value_length : Change → ℕ
value_length change = of_some 0 (λ v. length v) (put_of change)

abbrev pub table_checks : Machine → List ℕ → List (Bool × Refusal)
table_checks m name = (not (is_there (named name (tables m.history))), NoTable) ∷ []

abbrev pub key_checks : Machine → List ℕ → List ℕ → List (Bool × Refusal)
key_checks m name key = (not (is_name name), told.Invalid why.BadName) ∷ (nat_lt KEY_MAX (length key), told.Invalid (why.KeyLong (length key))) ∷ table_checks m name

abbrev pub write_checks : Machine → List ℕ → List ℕ → Change → List (Bool × Refusal)
write_checks m name key change =
    (not (is_name name), told.Invalid why.BadName) ∷ (nat_lt KEY_MAX (length key), told.Invalid (why.KeyLong (length key)))
    ∷ (nat_lt VALUE_MAX (value_length change), told.Invalid (why.ValueLong (value_length change))) ∷ table_checks m name

-- the first write of a transaction draws its id
abbrev pub id_drawn : Machine → ℕ → Transaction → Outcome × Event
id_drawn m session t = if t.id == 0 then checked ((nat_lt NUMBER_MAX m.next, told.Limit counted.Ids) ∷ []) (Done, DrawId session) else (Done, Nothing)

-- ---- calls

abbrev pub same_format : Format → Format → Bool
same_format S S = true
same_format U U = true
same_format _ _ = false

abbrev pub same_formats : Formats → Formats → Bool
same_formats f g = same_format f.key g.key && same_format f.value g.value

-- Create, whose table bears the number that a new one would have; old: the table of its name
abbrev pub create_decision : List Table → Table → Option Table → Outcome × Event
create_decision known table None = checked ((nat_le TABLES_MAX (length known), told.Limit counted.Tables) ∷ []) (Done, CreateTable table)
create_decision known table (Some old) = if same_formats table.formats old.formats then (Done, Nothing) else refused Exists

abbrev pub commit_decision : Phase → Machine → ℕ → Transaction → Option ℕ → Option ℕ → Outcome × Event
commit_decision Running m session t commit durable = ruled (commit_rules m.oldest m.stable commit durable (durable_below m t.writes)) (CommitAt session (stamp_of commit) (stamp_of commit)) (StartLeaving session)
commit_decision (Prepared p) m session t commit durable = ruled (resolve_rules m.oldest m.stable p commit durable (durable_below m t.writes)) (CommitAt session (stamp_of commit) (or_stamp (stamp_of durable) (stamp_of commit))) Nothing
commit_decision Failed m session t commit durable = invalid why.FailedTxn
commit_decision Resolving m session t commit durable = (Resumes, Nothing)
commit_decision Leaving m session t commit durable = (Resumes, Nothing)

abbrev pub rollback_decision : Phase → ℕ → Outcome × Event
rollback_decision Resolving session = (Resumes, Nothing)
rollback_decision Leaving session = (Resumes, Nothing)
rollback_decision _ session = (Done, StartLeaving session)

-- the first event of its rollback is on a page: it is running or failed, and has updates to take out
abbrev pub undoes_first : Phase → List Write → Bool
undoes_first Running (w ∷ writes) = true
undoes_first Failed (w ∷ writes) = true
undoes_first _ _ = false

-- what was written for a checkpoint, by how the device took it: without room the checkpoint ends, a failed write or sync takes the machine down
abbrev pub stored_as : Storing → Outcome × Event → Outcome × Event
stored_as Stored done = done
stored_as NoPlace done = (Refused NoSpace, CheckpointDrop)
stored_as ReadFailed done = refused DiskFault
stored_as (Damaged offset want found) done = refused (Corrupt offset want found)
stored_as (WriteFailed fault) done = (Refused DiskFault, GoDown fault)

abbrev pub left_or_end : Bool → Outcome
left_or_end left = if left then Left else End

-- a call, or its event that finds the leaf
pub data Request : Type 0 where
  OpenCall : Request
  BeginCall : (read : Option ℕ) → Request
  PrepareCall : (stamp : ℕ) → Request
  CommitCall : (commit durable : Option ℕ) → Request
  RollbackCall : Request
  -- the last event of a commit or rollback whose transaction is ending; decided: what it was decided to answer
  EndCall : (decided : Outcome) → Request
  -- the first event of Get and Seek
  FindKey : (table key : List ℕ) → Request
  -- the first event of Put and Remove
  FindToWrite : (table key : List ℕ) (change : Change) → Request
  -- the event of Get, Seek, NextRow and PrevRow that looks in the history, where a page holds no version that is admitted
  HistoryCall : Request
  -- the first event of NextRow and PrevRow
  FindRow : (table : List ℕ) → Request
  CreateCall : (table : Table) → Request
  SetCall : (oldest stable : Option ℕ) → Request
  RtsCall : Request
  -- number: that of the last completed checkpoint, 0 where there is none
  StartCall : (number : ℕ) → Request
  -- the first event of a step of a checkpoint; left: a leaf of its tables is not captured yet
  StepCall : (left : Bool) → Request
  -- the last event of a step that found a leaf; left: another one is not captured yet
  CaptureCall : (left : Bool) (storing : Storing) → Request
  -- left: a leaf of its tables is not captured yet
  FinishCall : (left : Bool) (storing : Storing) → Request

-- of a step or the finish of a checkpoint
abbrev pub running_checkpoint : Machine → List (Bool × Refusal)
running_checkpoint m = (not (is_there m.checkpoint), told.Invalid why.NoCkpt) ∷ []

abbrev pub judged : Machine → ℕ → Request → Outcome × Event
judged m session OpenCall = checked ((nat_le SESSIONS_MAX (length m.sessions), told.Limit counted.Sessions) ∷ []) (Done, OpenSession)
judged m session (BeginCall read) = of_some (ruled (begin_rules m.oldest read) (BeginAt session (stamp_of read)) Nothing) (λ t. invalid why.InTxn) (transaction_of m session)
judged m session (PrepareCall stamp) = running_session m session (λ t. ruled (prepare_rules m.stable stamp) (PrepareAt session stamp) Nothing)
judged m session (CommitCall commit durable) = with_session m session (λ t. commit_decision t.phase m session t commit durable)
judged m session RollbackCall = with_session m session (λ t. rollback_decision t.phase session)
judged m session (EndCall decided) = (decided, EndTransaction session)
judged m session HistoryCall = (Done, Nothing)
judged m session (FindKey table key) = running_session m session (λ t. checked (key_checks m table key) (Done, Nothing))
judged m session (FindToWrite table key change) = running_session m session (λ t. checked (write_checks m table key change) (id_drawn m session t))
judged m session (FindRow table) = running_session m session (λ t. checked ((not (is_name table), told.Invalid why.BadName) ∷ table_checks m table) (Done, Nothing))
judged m session (CreateCall table) = checked ((not (is_name table.name), told.Invalid why.BadName) ∷ []) (create_decision (tables m.history) table (named table.name (tables m.history)))
judged m session (SetCall oldest stable) = ruled (set_rules m.oldest m.stable oldest stable) (SetStamps (stamp_of oldest) (stamp_of stable)) Nothing
judged m session RtsCall =
    unless_found (first_session (λ t. true) 0 m.sessions) who.Active
    (checked ((is_there m.checkpoint, told.Busy who.Checkpoint) ∷ (nat_le NUMBER_MAX m.rollbacks, told.Limit counted.Rollbacks) ∷ []) (Done, RollbackToStable))
judged m session (StartCall number) =
    checked ((is_there m.checkpoint, told.Busy who.Checkpoint) ∷ [])
    (unless_found (first_session (λ t. is_resolving t.phase) 0 m.sessions) who.Resolving
    (checked ((nat_le NUMBER_MAX number, told.Limit counted.Checkpoints) ∷ []) (Done, CheckpointStart)))
judged m session (StepCall left) = checked (running_checkpoint m) (if left then Done else End, Nothing)
judged m session (CaptureCall left storing) = checked (running_checkpoint m) (stored_as storing (left_or_end left, Nothing))
judged m session (FinishCall left storing) = checked (running_checkpoint m ++ (left, told.Invalid why.CkptLeft) ∷ []) (stored_as storing (Done, CheckpointFinish))

-- the event is on a page, where no fault is told
abbrev pub is_on_page : Machine → ℕ → Request → Bool
is_on_page m session RollbackCall = of_some false (λ t. undoes_first t.phase t.writes) (transaction_of m session)
is_on_page m session _ = false

-- the answer to a call at the event that judges it, and that event
abbrev pub decision : Machine → ℕ → Request → Outcome × Event
decision m session request = if is_on_page m session request then judged m session request else while_up m (judged m session request)

-- ---- answers with a choice, at the event that looks at the page

-- to a read of the key
abbrev pub GetAnswer : Machine → ℕ → Transaction → ℕ → List ℕ → Outcome → Type 0
GetAnswer m session t table key (Gives v) = ReadAnswer m session t table key (Value (Some v))
GetAnswer m session t table key (Refused NotFound) = ReadAnswer m session t table key (Value None)
GetAnswer m session t table key (Refused (PrepareConflict id)) = ReadAnswer m session t table key (Conflict id)
GetAnswer m session t table key _ = ⊥

-- what a write asks of its key: Put with overwrite asks nothing, without it no value, Remove a value
pub data Demand : Type 0 where
  Anything : Demand
  Vacant : Demand
  Occupied : Demand

-- the refusal of a write by what its transaction finds at the key
abbrev pub unmet : Demand → Option (List ℕ) → Option Refusal
unmet Vacant (Some v) = Some DuplicateKey
unmet Occupied None = Some NotFound
unmet _ _ = None

-- to a write of the key, with the event that it makes
abbrev pub WriteAnswer : Machine → ℕ → Transaction → ℕ → List ℕ → Change → Demand → Outcome → Event → Type 0
WriteAnswer m session t table key change demand Done event =
    MayWrite m session t table key × (unmet demand (present m t table key) ≡ None) × (event ≡ AcceptWrite session table key change)
WriteAnswer m session t table key change demand (Refused (Rollback run id)) event =
    MustNotWrite m session t table key (record { run = run; id = id }) × (event ≡ RefuseWrite session)
WriteAnswer m session t table key change demand (Refused refusal) event =
    MayWrite m session t table key × (unmet demand (present m t table key) ≡ Some refusal) × (event ≡ Nothing)
WriteAnswer m session t table key change demand _ event = ⊥
