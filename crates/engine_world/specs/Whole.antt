-- A whole call: its steps with nobody between, and what they come to.
use Rattle.std.specs.Prelude.{◌≡◌, ◌⊎◌, ℕ, false, List, [], Option, Some, None}
use Rattle.failure.specs.declared.Fault.{Fault}
use Rattle.wt_code.specs.declared.answers.Answer.{Answer}
use Rattle.wt_code.specs.declared.answers.Answer.TheVariants as answers
use Rattle.wt_code.specs.declared.refusals.Refusal.{Refusal}
use Rattle.wt_code.specs.declared.refusals.Refusal.TheVariants.{Panic}
use Rattle.item.specs.declared.Change.TheVariants.{Put as PutOf, Remove as RemoveOf}
use Rattle.kv_model.specs.History.{Table, tables, named}
use Rattle.kv_model.specs.Machine.{Machine, Event, EndTransaction, after}
use Rattle.kv_model.specs.Decisions.{Done, Request, FindKey, FindToWrite, FindRow, decision}
use Rattle.kv_model.specs.Calls.{Call, GetKey, PutKey, RemoveKey, SeekKey, NextRow, Around, SessionAnswers}
use Rattle.kv_model.specs.CallLaws.{any_around}
use Rattle.call_steps.specs.declared.reply.Reply.TheVariants as reply
use Rattle.engine_world.specs.Worlds.{Doing, Resting, Asked, Placed, Decided, Ending}
use Rattle.engine_world.specs.Steps.{Made, GoesOn, IsKeptOut}

-- Of the outside a session's call rests on nothing but its leaf, which was kept from it by this refusal, if by any.
abbrev pub around_kept : Option Refusal → Around
around_kept kept = record (any_around false (record { eviction = None; calls = [] }) 0) { MayKeepOut = λ r. kept ≡ Some r }

abbrev pub nothing_around : Around
nothing_around = around_kept None

-- the table was found, by the first event of a call on a leaf
pub record IsFound (from : Machine) (session : ℕ) (name : List ℕ) (request : Request) (table : ℕ) (m : Machine) : Type 0 where
  pub event : Event
  pub of : Table
  pub decided : decision from session request ≡ (Done, event)
  pub machine : m ≡ after from event
  pub found : named name (tables m.history) ≡ Some of
  pub number : table ≡ of.number

abbrev pub PlacedFrom : Machine → ℕ → Call → ℕ → Machine → Type 0
PlacedFrom from session (GetKey name key) table m = IsFound from session name (FindKey name key) table m
PlacedFrom from session (PutKey name key value demand) table m = IsFound from session name (FindToWrite name key (PutOf value)) table m
PlacedFrom from session (RemoveKey name key) table m = IsFound from session name (FindToWrite name key RemoveOf) table m
PlacedFrom from session (SeekKey cursor name key) table m = IsFound from session name (FindKey name key) table m
PlacedFrom from session (NextRow cursor name way) table m = IsFound from session name (FindRow name) table m
PlacedFrom from session _ table m = ⊥

-- how far the call is that began on the first machine, when it does this on the second
abbrev pub Reached : Option Refusal → Machine → ℕ → Call → Doing → Machine → Type 0
Reached kept from session call Resting m = ⊥
Reached kept from session call (Asked asked left) m = (asked ≡ call) × (m ≡ from)
Reached kept from session call (Placed asked table left) m = (asked ≡ call) × PlacedFrom from session call table m
Reached kept from session call (Decided answer event left) m = (m.fault ≡ None) × SessionAnswers (around_kept kept) from session call answer (after m event)
Reached kept from session call (Ending answer left) m =
    (m.fault ≡ None → SessionAnswers (around_kept kept) from session call answer (after m (EndTransaction session)))
    × ((fault : Fault) → m.fault ≡ Some fault → SessionAnswers (around_kept kept) from session call (answers.Refused (Panic fault)) m)

-- the call goes on, or has the answer of the whole call
abbrev pub ReachesOn : Option Refusal → Machine → ℕ → Call → Made → Type 0
ReachesOn kept from session call made =
    ((made.told ≡ reply.More) × Reached kept from session call made.doing made.machine)
    ⊎ ((answer : Answer (List ℕ)) × (made.told ≡ reply.Answer answer) × SessionAnswers (around_kept kept) from session call answer made.machine)

-- a step brings a call that began with nobody between, so that no leaf went out meanwhile, nearer to its answer
abbrev pub StepsReach : Type 0
StepsReach = (kept : Option Refusal) (from m : Machine) (session : ℕ) (call : Call) (doing : Doing) (made : Made) → Reached kept from session call doing m → GoesOn false doing m session made → ReachesOn kept from session call made

-- so does the refusal that its leaf cannot be had
abbrev pub KeptOutReaches : Type 0
KeptOutReaches = (from m : Machine) (session : ℕ) (call : Call) (doing : Doing) (r : Refusal) (made : Made) → Reached None from session call doing m → IsKeptOut doing r m made → Reached (Some r) from session call made.doing made.machine
