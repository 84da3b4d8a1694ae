-- Whole calls of one actor, with nobody between its events: what a call answers, the machine that it leaves, and what it rests on outside the machine.
use Rattle.std.specs.Prelude.{◌≡◌, ◌⊎◌, ℕ, Bool, nat_lt, List, Option, Some, None, MatchBool}
use Rattle.item.specs.declared.Change.TheVariants.{Put as PutOf, Remove as RemoveOf}
use Rattle.item.specs.declared.Formats.{Formats}
use Rattle.wt_code.specs.declared.answers.Answer.{Answer}
use Rattle.wt_code.specs.declared.answers.Answer.TheVariants.{Refused as Not}
use Rattle.wt_code.specs.declared.refusals.Refusal.{Refusal}
use Rattle.wt_code.specs.declared.refusals.Refusal.TheVariants.{NoMemory, DiskFault as NoDisk, Invalid as NotValid}
use Rattle.wt_code.specs.declared.refusals.Invalid.TheVariants.{InCall}
use Rattle.failure.specs.declared.Fault.{Fault}
use Rattle.kv_model.specs.History.{Table, tables, named}
use Rattle.kv_model.specs.Machine.{Machine, Transaction, Event, StartLeaving, CommitAt, GoDown, Nothing, of_some, transaction_of, after}
use Rattle.kv_model.specs.Outside.{Storing, Unfinished}
use Rattle.kv_model.specs.Decisions.{Outcome, Done, Refused, Request, OpenCall, BeginCall, PrepareCall, CommitCall, RollbackCall, EndCall, FindKey, FindToWrite, FindRow, CreateCall, SetCall, RtsCall, StartCall, StepCall, CaptureCall, FinishCall, decision, Demand, Occupied, GetAnswer, WriteAnswer, key_checks, checked, while_up}
use Rattle.kv_model.specs.DecisionLaws.{Suits}
use Rattle.kv_model.specs.Rows.{Way, NextAnswer, SeekAnswer, reset_decision}
use Rattle.kv_model.specs.Closing.{close_decision, close_busy, rolling_back, after_all}
use Rattle.kv_model.specs.Told.{Tells}

-- who calls: a session, or an actor of the system
pub data Actor : Type 0 where
  Session : (number : ℕ) → Actor
  System : (number : ℕ) → Actor

-- names and keys are texts of bytes, None is a stamp that was not given
pub data Call : Type 0 where
  Begin : (read : Option ℕ) → Call
  GetKey : (table key : List ℕ) → Call
  -- Anything where it overwrites, Vacant where it does not
  PutKey : (table key value : List ℕ) (demand : Demand) → Call
  RemoveKey : (table key : List ℕ) → Call
  SeekKey : (cursor : ℕ) (table key : List ℕ) → Call
  -- Up is NextRow, Down is PrevRow
  NextRow : (cursor : ℕ) (table : List ℕ) (way : Way) → Call
  Reset : (cursor : ℕ) → Call
  Prepare : (stamp : ℕ) → Call
  Commit : (commit durable : Option ℕ) → Call
  Rollback : Call
  Create : (table : List ℕ) (formats : Formats) → Call
  Set : (oldest stable : Option ℕ) → Call
  CkptStart : Call
  CkptStep : Call
  CkptFinish : Call
  Evict : (table key : List ℕ) → Call
  Rts : Call
  Close : Call

-- ---- what the machine determines

-- a transaction that is ending ends at the last event, which a fault may keep from it; outcome: what was decided
abbrev pub ended : Machine → ℕ → Outcome → Outcome × Machine
ended m session outcome = of_some (outcome, m) (λ t. let last = decision m session (EndCall outcome) in (last.0, after m last.1)) (transaction_of m session)

-- the answer to a commit or a rollback by the event that decides it, and the machine then
abbrev pub settled : Machine → ℕ → Outcome → Event → Outcome × Machine
settled m session outcome (StartLeaving s) = ended (after m (StartLeaving s)) session outcome
settled m session outcome (CommitAt s commit durable) = ended (after m (CommitAt s commit durable)) session outcome
settled m session outcome event = (outcome, after m event)

-- a call that one event decides
abbrev pub Judged : Machine → ℕ → Request → Outcome → Machine → Type 0
Judged m session request outcome next = (e : Event) × (decision m session request ≡ (outcome, e)) × (next ≡ after m e)

-- a call that ends its transaction, or is refused
abbrev pub Settled : Machine → ℕ → Request → Outcome → Machine → Type 0
Settled m session request outcome next = let first = decision m session request in settled m session first.0 first.1 ≡ (outcome, next)

-- the session's transaction, and the table of this name
pub record Finds (m : Machine) (session : ℕ) (name : List ℕ) (t : Transaction) (table : Table) : Type 0 where
  pub transaction : transaction_of m session ≡ Some t
  pub table_is : named name (tables m.history) ≡ Some table

-- The event that finds the place is refused; or the call goes on from there, by what it looks at.
abbrev pub AtPlace : Machine → ℕ → List ℕ → Request → (Machine → Transaction → Table → Outcome → Event → Type 0) → Outcome → Machine → Type 0
AtPlace m session name request Looks outcome next =
    ((r : Refusal) × (e : Event) × (decision m session request ≡ (Refused r, e)) × (outcome ≡ Refused r) × (next ≡ m))
    ⊎ ((e : Event) × (t : Transaction) × (table : Table) × (event : Event) × (decision m session request ≡ (Done, e))
    × Finds (after m e) session name t table × Looks (after m e) t table outcome event × (next ≡ after (after m e) event))

-- the answer to a session's call that is not kept from its work, and the machine then
abbrev pub Decided : Machine → ℕ → Call → Outcome → Machine → Type 0
Decided m session (Begin read) outcome next = Judged m session (BeginCall read) outcome next
Decided m session (Prepare stamp) outcome next = Judged m session (PrepareCall stamp) outcome next
Decided m session (Commit commit durable) outcome next = Settled m session (CommitCall commit durable) outcome next
Decided m session Rollback outcome next = Settled m session RollbackCall outcome next
Decided m session (Reset cursor) outcome next = (e : Event) × (reset_decision m session cursor ≡ (outcome, e)) × (next ≡ after m e)
Decided m session (GetKey name key) outcome next =
    AtPlace m session name (FindKey name key) (λ n t table o event. GetAnswer n session t table.number key o × (event ≡ Nothing)) outcome next
Decided m session (SeekKey cursor name key) outcome next =
    AtPlace m session name (FindKey name key) (λ n t table o event. SeekAnswer n session t cursor table.number key o event) outcome next
Decided m session (NextRow cursor name way) outcome next =
    AtPlace m session name (FindRow name) (λ n t table o event. NextAnswer n session t cursor table.number way o event) outcome next
Decided m session (PutKey name key value demand) outcome next =
    AtPlace m session name (FindToWrite name key (PutOf value)) (λ n t table o event. WriteAnswer n session t table.number key (PutOf value) demand o event) outcome next
Decided m session (RemoveKey name key) outcome next =
    AtPlace m session name (FindToWrite name key RemoveOf) (λ n t table o event. WriteAnswer n session t table.number key RemoveOf Occupied o event) outcome next
Decided m session _ outcome next = ⊥

-- ---- what lies outside

-- What a call rests on outside the machine. Where it is of no account to a call, it says nothing of it.
pub record Around : Type 1 where
  -- its actor has a call that is not finished
  pub in_call : Bool
  -- the calls of the others that are not
  pub unfinished : Unfinished
  -- the number of the last completed checkpoint, 0 where there is none
  pub IsNumber : ℕ → Type 0
  -- how many leaves of the running checkpoint's tables are not captured yet, as the call begins
  pub uncaptured : ℕ
  -- how the device may take what a checkpoint of this machine writes
  pub MayTake : Machine → Storing → Type 0
  -- why a page, or the room that it needs, may not be had
  pub MayKeepOut : Refusal → Type 0

-- memory was too short, and nothing has changed
abbrev pub IsShort : Machine → Answer (List ℕ) → Machine → Type 0
IsShort m answer next = (answer ≡ Not NoMemory) × (next ≡ m)

-- The page was not had: the machine is as it was, or down where a write or sync failed.
abbrev pub IsKeptOut : Around → Machine → Answer (List ℕ) → Machine → Type 0
IsKeptOut a m answer next =
    (r : Refusal) × a.MayKeepOut r × (answer ≡ Not r) × ((next ≡ m) ⊎ ((r ≡ NoDisk) × ((f : Fault) × (next ≡ after m (GoDown f)))))

-- Memory was too short or the page was not had, before the event that finds it or after it. An id that it drew stays drawn.
abbrev pub IsHeldUp : Around → Machine → ℕ → Request → Answer (List ℕ) → Machine → Type 0
IsHeldUp a m session request answer next =
    IsShort m answer next
    ⊎ ((e : Event) × (decision m session request ≡ (Done, e)) × (IsShort (after m e) answer next ⊎ IsKeptOut a (after m e) answer next))

-- a session's call that memory or its page keeps from its work; Begin, Prepare, Commit, Rollback and Reset need neither
abbrev pub HeldUp : Around → Machine → ℕ → Call → Answer (List ℕ) → Machine → Type 0
HeldUp a m session (GetKey name key) answer next = IsHeldUp a m session (FindKey name key) answer next
HeldUp a m session (SeekKey cursor name key) answer next = IsHeldUp a m session (FindKey name key) answer next
HeldUp a m session (NextRow cursor name way) answer next = IsHeldUp a m session (FindRow name) answer next
HeldUp a m session (PutKey name key value demand) answer next = IsHeldUp a m session (FindToWrite name key (PutOf value)) answer next
HeldUp a m session (RemoveKey name key) answer next = IsHeldUp a m session (FindToWrite name key RemoveOf) answer next
HeldUp a m session _ answer next = ⊥

abbrev pub SessionAnswers : Around → Machine → ℕ → Call → Answer (List ℕ) → Machine → Type 0
SessionAnswers a m session call answer next =
    ((outcome : Outcome) × Decided m session call outcome next × Tells outcome answer) ⊎ HeldUp a m session call answer next

-- ---- the calls of the system

-- the device took what was written so; or the decision is the same however it would have taken it
abbrev pub IsTaken : {A : Type 0} → Around → Machine → (Storing → A) → Storing → Type 0
IsTaken a m decided storing = a.MayTake m storing ⊎ ((other : Storing) → decided other ≡ decided storing)

-- an event decides a call of the system
abbrev pub SystemJudged : Machine → Request → Answer (List ℕ) → Machine → Type 0
SystemJudged m request answer next = (outcome : Outcome) × Judged m 0 request outcome next × Tells outcome answer

-- Evict changes no state that a call can see: what is in its way is outside
abbrev pub evict_decision : Machine → List ℕ → List ℕ → Outcome × Event
evict_decision m name key = while_up m (checked (key_checks m name key) (Done, Nothing))

-- the table that Create would make: its number is above all that were ever made
abbrev pub IsTableFor : Machine → List ℕ → Formats → Table → Type 0
IsTableFor m name formats table = (table.name ≡ name) × (table.formats ≡ formats) × Suits m 0 (CreateCall table)

-- what a Close that is not refused at once has done before it takes its checkpoint
abbrev pub rolled_back : Machine → Machine
rolled_back m = after_all m (rolling_back 0 m.sessions)

-- Close was short of memory, after it rolled the transactions back
pub record IsCloseShort (a : Around) (m : Machine) (answer : Answer (List ℕ)) (next : Machine) : Type 0 where
  pub is : answer ≡ Not NoMemory
  pub up : m.fault ≡ None
  pub idle : close_busy m a.unfinished ≡ None
  pub left : next ≡ rolled_back m

abbrev pub SystemAnswers : Around → Machine → Call → Answer (List ℕ) → Machine → Type 0
SystemAnswers a m (Create name formats) answer next =
    IsShort m answer next ⊎ ((table : Table) × IsTableFor m name formats table × SystemJudged m (CreateCall table) answer next)
SystemAnswers a m (Set oldest stable) answer next = SystemJudged m (SetCall oldest stable) answer next
SystemAnswers a m Rts answer next = IsShort m answer next ⊎ SystemJudged m RtsCall answer next
SystemAnswers a m CkptStart answer next = IsShort m answer next ⊎ ((number : ℕ) × a.IsNumber number × SystemJudged m (StartCall number) answer next)
SystemAnswers a m CkptStep answer next =
    IsShort m answer next
    ⊎ IsKeptOut a m answer next
    ⊎ MatchBool (nat_lt 0 a.uncaptured)
    ((storing : Storing) × IsTaken a m (λ s. decision m 0 (CaptureCall (nat_lt 1 a.uncaptured) s)) storing × SystemJudged m (CaptureCall (nat_lt 1 a.uncaptured) storing) answer next)
    (SystemJudged m (StepCall (nat_lt 0 a.uncaptured)) answer next)
SystemAnswers a m CkptFinish answer next =
    IsShort m answer next ⊎ ((storing : Storing) × IsTaken a m (λ s. decision m 0 (FinishCall (nat_lt 0 a.uncaptured) s)) storing × SystemJudged m (FinishCall (nat_lt 0 a.uncaptured) storing) answer next)
SystemAnswers a m (Evict name key) answer next =
    IsShort m answer next
    ⊎ IsKeptOut a m answer next
    ⊎ ((outcome : Outcome) × (evict_decision m name key ≡ (outcome, Nothing)) × Tells outcome answer × (next ≡ m))
SystemAnswers a m Close answer next =
    IsCloseShort a m answer next
    ⊎ ((number : ℕ) × (storing : Storing) × (outcome : Outcome) × (events : List Event) × a.IsNumber number × IsTaken a (rolled_back m) (close_decision m a.unfinished number) storing
    × (close_decision m a.unfinished number storing ≡ (outcome, events)) × Tells outcome answer × (next ≡ after_all m events))
SystemAnswers a m _ answer next = ⊥

-- ---- any call

abbrev pub ActorAnswers : Around → Machine → Actor → Call → Answer (List ℕ) → Machine → Type 0
ActorAnswers a m (Session session) call answer next = SessionAnswers a m session call answer next
ActorAnswers a m (System number) call answer next = SystemAnswers a m call answer next

-- the answer to a whole call, and the machine that it leaves
abbrev pub Answers : Around → Machine → Actor → Call → Answer (List ℕ) → Machine → Type 0
Answers a m actor call answer next = MatchBool a.in_call ((answer ≡ Not (NotValid InCall)) × (next ≡ m)) (ActorAnswers a m actor call answer next)

-- a session more, or none
abbrev pub OpensSession : Machine → Answer (List ℕ) → Machine → Type 0
OpensSession m answer next = IsShort m answer next ⊎ SystemJudged m OpenCall answer next
