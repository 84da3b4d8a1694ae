-- What the plain calls stand for, and what each answers on a machine, with the outside as it is given, no page kept from it and no memory short.
use Rattle.std.specs.Prelude.{◌≡◌, ℕ, true, false, nat_lt, List, Some, None, Result, IfOk, MatchBool, if◌then◌else◌}
use Rattle.item.specs.declared.Change.{Change}
use Rattle.wt_code.specs.declared.answers.Answer.{Answer}
use Rattle.wt_code.specs.declared.answers.Answer.TheVariants.{Refused as Not}
use Rattle.wt_code.specs.declared.refusals.Refusal.TheVariants.{NotFound, PrepareConflict, Invalid as NotValid}
use Rattle.wt_code.specs.declared.refusals.Invalid.TheVariants.{InCall}
use Rattle.failure.specs.declared.NoMemory.{NoMemory}
use Rattle.kv_model.specs.History.{Table, tables, named}
use Rattle.kv_model.specs.Machine.{Machine, Transaction, transaction_of, Event, Nothing, after}
use Rattle.kv_model.specs.Outside as outside
use Rattle.kv_model.specs.Reads.{Found, Value, Conflict}
use Rattle.kv_model.specs.Decisions.{Outcome, Gives, Refused, Request, FindToWrite, CreateCall, SetCall, RtsCall, StartCall, StepCall, CaptureCall, FinishCall, Demand, GetAnswer, WriteAnswer, is_there}
use Rattle.kv_model.specs.Rows.{Way, NextAnswer, SeekAnswer}
use Rattle.kv_model.specs.Closing.{close_decision, after_all}
use Rattle.kv_model.specs.Told.{Tells}
use Rattle.kv_model.specs.Calls as model
use Rattle.kv_model.specs.Calls.{Finds, AtPlace, Judged, Decided, IsTableFor, evict_decision}
use Rattle.kv_plain.specs.declared.calls.Unfinished.{Unfinished}
use Rattle.kv_plain.specs.declared.calls.Around.{Around}
use Rattle.kv_plain.specs.declared.event.Turn.{Turn}
use Rattle.kv_plain.specs.Machine.{machine_in}
use Rattle.kv_plain.specs.Outcome.{outcome_in}
use Rattle.kv_plain.specs.Decisions.{storing_in}

-- ---- what lies outside

abbrev pub unfinished_in : Unfinished → outside.Unfinished
unfinished_in u = record { eviction = u.eviction; calls = u.calls.items }

-- no page is kept from a call
abbrev pub around_in : Around → model.Around
around_in a = record {
  in_call = a.in_call;
  unfinished = unfinished_in a.unfinished;
  IsNumber = λ number. number ≡ a.number;
  uncaptured = a.uncaptured;
  MayTake = λ m storing. storing ≡ storing_in a.storing;
  MayKeepOut = λ refusal. ⊥;
}

-- ---- answers

-- a step of a checkpoint that has so many leaves left, by how the device takes the next
abbrev pub step_request : ℕ → outside.Storing → Request
step_request left storing = if nat_lt 0 left then CaptureCall (nat_lt 1 left) storing else StepCall false

-- what a Close decides
abbrev pub close_of : Around → Machine → Outcome × List Event
close_of a m = close_decision m (unfinished_in a.unfinished) a.number (storing_in a.storing)

-- a call of the system
abbrev pub SystemDecided : Around → Machine → model.Call → Outcome → Machine → Type 0
SystemDecided a m (model.Create name formats) outcome next = (table : Table) × IsTableFor m name formats table × Judged m 0 (CreateCall table) outcome next
SystemDecided a m (model.Set oldest stable) outcome next = Judged m 0 (SetCall oldest stable) outcome next
SystemDecided a m model.Rts outcome next = Judged m 0 RtsCall outcome next
SystemDecided a m model.CkptStart outcome next = Judged m 0 (StartCall a.number) outcome next
SystemDecided a m model.CkptStep outcome next = Judged m 0 (step_request a.uncaptured (storing_in a.storing)) outcome next
SystemDecided a m model.CkptFinish outcome next = Judged m 0 (FinishCall (nat_lt 0 a.uncaptured) (storing_in a.storing)) outcome next
SystemDecided a m (model.Evict name key) outcome next = (evict_decision m name key ≡ (outcome, Nothing)) × (next ≡ m)
SystemDecided a m model.Close outcome next =
    (events : List Event) × (close_of a m ≡ (outcome, events)) × (next ≡ after_all m events)
SystemDecided a m _ outcome next = ⊥

-- by who calls
abbrev pub Decides : Around → Machine → model.Actor → model.Call → Outcome → Machine → Type 0
Decides a m (model.Session session) call outcome next = Decided m session call outcome next
Decides a m (model.System number) call outcome next = SystemDecided a m call outcome next

-- exactly what the call answers and leaves
abbrev pub IsExact : Around → Machine → model.Actor → model.Call → Answer (List ℕ) → Machine → Type 0
IsExact a m actor call answer next =
    MatchBool a.in_call ((answer ≡ Not (NotValid InCall)) × (next ≡ m)) ((outcome : Outcome) × Decides a m actor call outcome next × Tells outcome answer)

-- ---- parts of answers

-- the outcome, and the machine that is left
abbrev pub Turns : (Outcome → Machine → Type 0) → Turn → Type 0
Turns Next t = Next (outcome_in t.outcome) (machine_in t.machine)

-- the same, where memory was not short
abbrev pub Leads : (Outcome → Machine → Type 0) → Result Turn NoMemory → Type 0
Leads Next turn = IfOk turn (λ t. Turns Next t)

-- an event, with its outcome
abbrev pub Makes : Machine → Outcome × Event → Outcome → Machine → Type 0
Makes m d outcome next = (e : Event) × (d ≡ (outcome, e)) × (next ≡ after m e)

-- the end of a transaction that was decided
abbrev pub Ends : ℕ → Machine → Outcome → Outcome → Machine → Type 0
Ends session m decided outcome next = model.ended m session decided ≡ (outcome, next)

-- a commit or a rollback
abbrev pub Settles : ℕ → Machine → Outcome × Event → Outcome → Machine → Type 0
Settles session m d outcome next = model.settled m session d.0 d.1 ≡ (outcome, next)

-- the session has a transaction, and there is a table of this name
pub record IsFound (m : Machine) (session : ℕ) (name : List ℕ) : Type 0 where
  pub transaction : is_there (transaction_of m session) ≡ true
  pub table : is_there (named name (tables m.history)) ≡ true

-- a read of a leaf that was found
abbrev pub LooksUp : ℕ → List ℕ → List ℕ → Machine → Outcome → Type 0
LooksUp session name key m outcome = (t : Transaction) × (table : Table) × Finds m session name t table × GetAnswer m session t table.number key outcome

-- a write of a leaf that was found, with its event
abbrev pub Changes : ℕ → List ℕ → List ℕ → Change → Demand → Machine → Outcome → Event → Type 0
Changes session name key change demand m outcome event = (t : Transaction) × (table : Table) × Finds m session name t table × WriteAnswer m session t table.number key change demand outcome event

-- the next row of a table that was found
abbrev pub Steps : ℕ → ℕ → List ℕ → Way → Machine → Outcome → Event → Type 0
Steps session cursor name way m outcome event = (t : Transaction) × (table : Table) × Finds m session name t table × NextAnswer m session t cursor table.number way outcome event

-- a seek of a leaf that was found
abbrev pub Seeks : ℕ → ℕ → List ℕ → List ℕ → Machine → Outcome → Event → Type 0
Seeks session cursor name key m outcome event = (t : Transaction) × (table : Table) × Finds m session name t table × SeekAnswer m session t cursor table.number key outcome event

-- Put, or Remove
abbrev pub WritesKey : Machine → ℕ → List ℕ → List ℕ → Change → Demand → Outcome → Machine → Type 0
WritesKey m session name key change demand outcome next =
    AtPlace m session name (FindToWrite name key change) (λ n t table o event. WriteAnswer n session t table.number key change demand o event) outcome next

-- the answer to a read
abbrev pub read_answer : Found → Outcome
read_answer (Value (Some v)) = Gives v
read_answer (Value None) = Refused NotFound
read_answer (Conflict id) = Refused (PrepareConflict id)
