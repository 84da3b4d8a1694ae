-- What decides a call may come.
use Rattle.std.specs.Prelude.{◌≡◌, ℕ, ◌<◌, List, [], ◌∷◌, length, None}
use Rattle.kv_model.specs.Holds.{Member}
use Rattle.kv_model.specs.History.{Table, created}
use Rattle.kv_model.specs.Machine.{Machine, Event, after, transaction_of}
use Rattle.kv_model.specs.Reads.{IsEnding}
use Rattle.kv_model.specs.Outside.{Storing, Unfinished}
use Rattle.kv_model.specs.Allowed.{Allowed, HasTransaction}
use Rattle.kv_model.specs.Decisions.{Request, BeginCall, EndCall, CreateCall, decision}
use Rattle.kv_model.specs.Closing.{close_busy, close_decision, after_all}

-- what the caller knows: the session is open, a new table's number is above all that were made, and a transaction whose last event comes is ending
abbrev pub Suits : Machine → ℕ → Request → Type 0
Suits m session (BeginCall read) = session < length m.sessions
Suits m session (CreateCall table) = ((t : Table) → Member t (created m.history) → t.number < table.number) × (0 < table.number)
Suits m session (EndCall decided) = HasTransaction m session (λ t. IsEnding t.phase)
Suits m session _ = Unit {0}

-- the event of each decision may come
abbrev pub DecisionsMayCome : Type 0
DecisionsMayCome = (m : Machine) (session : ℕ) (request : Request) → Suits m session request → Allowed m (decision m session request).1

-- each of the events may come, one after the other
abbrev pub EachMayCome : Machine → List Event → Type 0
EachMayCome m [] = Unit {0}
EachMayCome m (event ∷ later) = Allowed m event × EachMayCome (after m event) later

-- so may those of a Close
abbrev pub ClosesMayCome : Type 0
ClosesMayCome = (m : Machine) (u : Unfinished) (number : ℕ) (storing : Storing) → EachMayCome m (close_decision m u number storing).1

-- a Close that finds the machine up and nobody busy leaves no transaction
abbrev pub ClosesEndTransactions : Type 0
ClosesEndTransactions = (m : Machine) (u : Unfinished) (number : ℕ) (storing : Storing) → m.fault ≡ None → close_busy m u ≡ None
    → (session : ℕ) → transaction_of (after_all m (close_decision m u number storing).1) session ≡ None
