-- What the events of whole calls, and whole calls, leave of a valid machine.
use Rattle.std.specs.Prelude.{◌≡◌, ◌<◌, ℕ, Bool, true, List, Some}
use Rattle.item.specs.declared.Change.{Change}
use Rattle.wt_code.specs.declared.answers.Answer.{Answer}
use Rattle.kv_model.specs.History.{tables, has_table}
use Rattle.kv_model.specs.Machine.{Machine, Transaction, Running, Event, transaction_of}
use Rattle.kv_model.specs.Outside.{Unfinished}
use Rattle.kv_model.specs.Allowed.{Allowed}
use Rattle.kv_model.specs.Decisions.{Outcome, Demand, WriteAnswer}
use Rattle.kv_model.specs.Rows.{Way, SeekAnswer, NextAnswer, reset_decision}
use Rattle.kv_model.specs.Calls.{Actor, Call, Around, Answers, OpensSession}
use Rattle.kv_model.specs.Valid.{Valid}

-- the event of a write may come, once its transaction has an id and the table is there
abbrev pub WritesMayCome : Type 0
WritesMayCome = (m : Machine) (session : ℕ) (t : Transaction) (table : ℕ) (key : List ℕ) (change : Change) (demand : Demand) (outcome : Outcome) (event : Event)
    → transaction_of m session ≡ Some t → t.phase ≡ Running → 0 < t.id → has_table (tables m.history) table ≡ true
    → WriteAnswer m session t table key change demand outcome event → Allowed m event

-- so may the move of a cursor, of a transaction that runs
abbrev pub SeeksMayCome : Type 0
SeeksMayCome = (m : Machine) (session : ℕ) (t : Transaction) (cursor table : ℕ) (key : List ℕ) (outcome : Outcome) (event : Event)
    → transaction_of m session ≡ Some t → t.phase ≡ Running → SeekAnswer m session t cursor table key outcome event → Allowed m event

abbrev pub RowsMayCome : Type 0
RowsMayCome = (m : Machine) (session : ℕ) (t : Transaction) (cursor table : ℕ) (way : Way) (outcome : Outcome) (event : Event)
    → transaction_of m session ≡ Some t → t.phase ≡ Running → NextAnswer m session t cursor table way outcome event → Allowed m event

abbrev pub ResetsMayCome : Type 0
ResetsMayCome = (m : Machine) (session cursor : ℕ) → Allowed m (reset_decision m session cursor).1

-- of the outside nothing is known but these: an answer around a call is one of this too
abbrev pub any_around : Bool → Unfinished → ℕ → Around
any_around in_call unfinished uncaptured = record {
  in_call = in_call;
  unfinished = unfinished;
  IsNumber = λ number. Unit {0};
  uncaptured = uncaptured;
  MayTake = λ m storing. Unit {0};
  MayKeepOut = λ refusal. Unit {0};
}

-- what a whole call leaves is a valid machine, whatever its answer rests on outside
abbrev pub CallsKeepValid : Type 0
CallsKeepValid = (in_call : Bool) (unfinished : Unfinished) (uncaptured : ℕ) (m : Machine) (actor : Actor) (call : Call) (answer : Answer (List ℕ)) (next : Machine)
    → Valid m → Answers (any_around in_call unfinished uncaptured) m actor call answer next → Valid next

-- so is what the opening of a session leaves
abbrev pub OpeningsKeepValid : Type 0
OpeningsKeepValid = (m : Machine) (answer : Answer (List ℕ)) (next : Machine) → Valid m → OpensSession m answer next → Valid next
