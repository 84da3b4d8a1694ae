-- What a step of a session's call may reply, and what it leaves.
use Rattle.std.specs.Prelude.{◌≡◌, ◌⊎◌, ◌<◌, ℕ, Bool, true, List, [], Option, Some, None, slice_set}
use Rattle.failure.specs.declared.Fault.{Fault}
use Rattle.item.specs.declared.Change.TheVariants.{Put as PutOf, Remove as RemoveOf}
use Rattle.wt_code.specs.declared.answers.Answer.{Answer}
use Rattle.wt_code.specs.declared.answers.Answer.TheVariants as answers
use Rattle.wt_code.specs.declared.refusals.Refusal.{Refusal}
use Rattle.wt_code.specs.declared.refusals.Refusal.TheVariants.{Again, NoMemory, Panic, Invalid}
use Rattle.wt_code.specs.declared.refusals.Invalid.TheVariants.{InCall, NoCall}
use Rattle.kv_model.specs.History.{Table, tables, named}
use Rattle.kv_model.specs.Machine.{Machine, Transaction, transaction_of, Event, EndTransaction, Nothing, after}
use Rattle.kv_model.specs.Decisions.{Outcome, Done, Refused, Request, BeginCall, PrepareCall, CommitCall, RollbackCall, FindKey, FindToWrite, FindRow, decision, Occupied, GetAnswer, WriteAnswer}
use Rattle.kv_model.specs.Rows.{SeekAnswer, NextAnswer, reset_decision}
use Rattle.kv_model.specs.Calls.{Call, Begin, GetKey, PutKey, RemoveKey, SeekKey, NextRow, Reset, Prepare, Commit, Rollback}
use Rattle.kv_model.specs.Told.{Tells}
use Rattle.call_steps.specs.declared.reply.Reply.{Reply}
use Rattle.call_steps.specs.declared.reply.Reply.TheVariants as reply
use Rattle.engine_world.specs.Worlds.{Doing, Resting, Asked, Placed, Decided, Ending, World, doing_of, unset}

-- what a step leaves: its reply, the machine, and what the session does then
pub record Made : Type 0 where
  pub told : Reply
  pub machine : Machine
  pub doing : Doing

-- the call goes on, with fewer steps left
abbrev pub GoesTo : (ℕ → Doing) → ℕ → Machine → Made → Type 0
GoesTo to left next made = (fewer : ℕ) × (fewer < left) × (made ≡ record { told = reply.More; machine = next; doing = to fewer })

-- the call has ended
abbrev pub EndsWith : Answer (List ℕ) → Machine → Made → Type 0
EndsWith answer next made = made ≡ record { told = reply.Answer answer; machine = next; doing = Resting }

-- the call has ended, or there are hazard words to clear
abbrev pub Finishes : Answer (List ℕ) → ℕ → Machine → Made → Type 0
Finishes answer left next made = EndsWith answer next made ⊎ GoesTo (Decided answer Nothing) left next made

-- ---- events that judge a call

-- one event decides the call
abbrev pub JudgedBy : Outcome × Event → Machine → Made → Type 0
JudgedBy decided m made = (answer : Answer (List ℕ)) × Tells decided.0 answer × EndsWith answer (after m decided.1) made

-- the call is refused, or its table is found
abbrev pub FoundBy : Outcome → Event → Machine → Call → List ℕ → ℕ → Made → Type 0
FoundBy (Refused r) event m call name left made = EndsWith (answers.Refused r) m made
FoundBy Done event m call name left made = (table : Table) × (named name (tables (after m event).history) ≡ Some table) × GoesTo (Placed call table.number) left (after m event) made
FoundBy _ event m call name left made = ⊥

abbrev pub Finds : Machine → ℕ → Request → Call → List ℕ → ℕ → Made → Type 0
Finds m session request call name left made = let found = decision m session request in FoundBy found.0 found.1 m call name left made

-- a transaction that was committed has ended; one that is ending has updates to change, or has none and ends at once, which a machine that is down does not let it
abbrev pub EndsIn : Option Transaction → Answer (List ℕ) → Machine → ℕ → ℕ → Made → Type 0
EndsIn None answer m session left made = (m.fault ≡ None) × Finishes answer left m made
EndsIn (Some t) answer m session left made = GoesTo (Ending answer) left m made ⊎ ((m.fault ≡ None) × (t.writes ≡ []) × Finishes answer left (after m (EndTransaction session)) made)

abbrev pub SettledBy : Outcome → Event → Machine → ℕ → ℕ → Made → Type 0
SettledBy outcome Nothing m session left made = (answer : Answer (List ℕ)) × Tells outcome answer × EndsWith answer m made
SettledBy outcome event m session left made = (answer : Answer (List ℕ)) × Tells outcome answer × EndsIn (transaction_of (after m event) session) answer (after m event) session left made

-- a commit or rollback is refused or decided
abbrev pub Settles : Machine → ℕ → Request → ℕ → Made → Type 0
Settles m session request left made = let settled = decision m session request in SettledBy settled.0 settled.1 m session left made

abbrev pub Judges : Call → Machine → ℕ → ℕ → Made → Type 0
Judges (Begin read) m session left made = JudgedBy (decision m session (BeginCall read)) m made
Judges (GetKey name key) m session left made = Finds m session (FindKey name key) (GetKey name key) name left made
Judges (PutKey name key value demand) m session left made = Finds m session (FindToWrite name key (PutOf value)) (PutKey name key value demand) name left made
Judges (RemoveKey name key) m session left made = Finds m session (FindToWrite name key RemoveOf) (RemoveKey name key) name left made
Judges (SeekKey cursor name key) m session left made = Finds m session (FindKey name key) (SeekKey cursor name key) name left made
Judges (NextRow cursor name way) m session left made = Finds m session (FindRow name) (NextRow cursor name way) name left made
Judges (Reset cursor) m session left made = JudgedBy (reset_decision m session cursor) m made
Judges (Prepare stamp) m session left made = JudgedBy (decision m session (PrepareCall stamp)) m made
Judges (Commit commit durable) m session left made = Settles m session (CommitCall commit durable) left made
Judges Rollback m session left made = Settles m session RollbackCall left made
Judges _ m session left made = ⊥

-- ---- looks

-- what a look at the table answers, and the event that it makes
abbrev pub LookAnswer : Call → Machine → ℕ → Transaction → ℕ → Outcome → Event → Type 0
LookAnswer (GetKey name key) m session t table outcome event = GetAnswer m session t table key outcome × (event ≡ Nothing)
LookAnswer (PutKey name key value demand) m session t table outcome event = WriteAnswer m session t table key (PutOf value) demand outcome event
LookAnswer (RemoveKey name key) m session t table outcome event = WriteAnswer m session t table key RemoveOf Occupied outcome event
LookAnswer (SeekKey cursor name key) m session t table outcome event = SeekAnswer m session t cursor table key outcome event
LookAnswer (NextRow cursor name way) m session t table outcome event = NextAnswer m session t cursor table way outcome event
LookAnswer _ m session t table outcome event = ⊥

-- the event of a write comes at once, and that of a cursor with the answer
abbrev pub LooksOn : Call → Machine → Answer (List ℕ) → Event → ℕ → Made → Type 0
LooksOn (PutKey name key value demand) m answer event left made = GoesTo (Decided answer Nothing) left (after m event) made
LooksOn (RemoveKey name key) m answer event left made = GoesTo (Decided answer Nothing) left (after m event) made
LooksOn _ m answer event left made = GoesTo (Decided answer event) left m made

pub record Looks (call : Call) (m : Machine) (session table left : ℕ) (made : Made) : Type 0 where
  pub transaction : Transaction
  pub outcome : Outcome
  pub event : Event
  pub answer : Answer (List ℕ)
  pub there : transaction_of m session ≡ Some transaction
  pub finds : LookAnswer call m session transaction table outcome event
  pub tells : Tells outcome answer
  pub goes : LooksOn call m answer event left made

-- memory was too short for the look, which changes nothing
abbrev pub LooksShort : Machine → ℕ → Made → Type 0
LooksShort m left made = GoesTo (Decided (answers.Refused NoMemory) Nothing) left m made

-- its leaf has gone out since it was found: the frame has another state word
abbrev pub LooksAgain : Bool → Machine → ℕ → Made → Type 0
LooksAgain again m left made = (again ≡ true) × ((word : ℕ) × GoesTo (Decided (answers.Refused (Again word)) Nothing) left m made)

-- ---- steps

-- after the answer was decided, the hub may tell a fault in its place
abbrev pub TellsFault : Option Fault → ℕ → Machine → Made → Type 0
TellsFault None left m made = ⊥
TellsFault (Some fault) left m made = GoesTo (Decided (answers.Refused (Panic fault)) Nothing) left m made

-- the transaction ends, unless a fault is told
abbrev pub EndsUnless : Option Fault → Answer (List ℕ) → Machine → ℕ → ℕ → Made → Type 0
EndsUnless None answer m session left made = Finishes answer left (after m (EndTransaction session)) made
EndsUnless (Some fault) answer m session left made = EndsWith (answers.Refused (Panic fault)) m made

-- a step of the call: it stays as it is with fewer steps left, or does what comes next; again: its leaf may have gone out since it was found
abbrev pub GoesOn : Bool → Doing → Machine → ℕ → Made → Type 0
GoesOn again Resting m session made = made ≡ record { told = reply.Answer (answers.Refused (Invalid NoCall)); machine = m; doing = Resting }
GoesOn again (Asked call left) m session made = GoesTo (Asked call) left m made ⊎ Judges call m session left made
GoesOn again (Placed call table left) m session made = GoesTo (Placed call table) left m made ⊎ (Looks call m session table left made ⊎ (LooksShort m left made ⊎ LooksAgain again m left made))
GoesOn again (Decided answer event left) m session made = GoesTo (Decided answer event) left m made ⊎ (EndsWith answer (after m event) made ⊎ TellsFault m.fault left m made)
GoesOn again (Ending answer left) m session made = GoesTo (Ending answer) left m made ⊎ EndsUnless m.fault answer m session left made

-- one step of the session's call
pub record MayGo (w : World) (session : ℕ) (told : Reply) (later : World) : Type 0 where
  pub made : Made
  pub goes : GoesOn (w.again session) (doing_of w session) w.machine session made
  pub tells : told ≡ made.told
  pub leaves : later ≡ record w { machine = made.machine; sessions = slice_set w.sessions session made.doing }

-- a call begins, unless the session has one
abbrev pub BeginsIn : Doing → World → ℕ → Call → Reply → World → Type 0
BeginsIn Resting w session call told next = (left : ℕ) × (told ≡ reply.Started) × (next ≡ record w { sessions = slice_set w.sessions session (Asked call left); again = unset session w.again })
BeginsIn _ w session call told next = (told ≡ reply.Answer (answers.Refused (Invalid InCall))) × (next ≡ w)

abbrev pub MayBegin : World → ℕ → Call → Reply → World → Type 0
MayBegin w session call told next = BeginsIn (doing_of w session) w session call told next

-- ---- a leaf that cannot be had

-- the call that waits for it is refused so
abbrev pub IsKeptOut : Doing → Refusal → Machine → Made → Type 0
IsKeptOut (Placed call table left) r m made = GoesTo (Decided (answers.Refused r) Nothing) left m made
IsKeptOut _ r m made = ⊥

pub record MayKeepOut (w : World) (session : ℕ) (r : Refusal) (later : World) : Type 0 where
  pub made : Made
  pub keeps : IsKeptOut (doing_of w session) r w.machine made
  pub leaves : later ≡ record w { machine = made.machine; sessions = slice_set w.sessions session made.doing }
