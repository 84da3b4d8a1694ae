-- Events of others, and events that leave a key's versions as they are.
use Rattle.std.specs.Prelude.{◌≡◌, ◌≢◌, ℕ, List, [], ◌∷◌, Some}
use Rattle.kv_model.specs.Holds.{Member}
use Rattle.kv_model.specs.Machine.{Machine, Transaction, transaction_of, name_of, Event, BeginAt, DrawId, AcceptWrite, RefuseWrite, PrepareAt, CommitAt, StartLeaving, EndTransaction, RollbackToStable}
use Rattle.kv_model.specs.Pending.{Update}

-- not an event of this session's transaction
abbrev pub IsOfOthers : ℕ → Event → Type 0
IsOfOthers session (BeginAt other read) = other ≢ session
IsOfOthers session (DrawId other) = other ≢ session
IsOfOthers session (AcceptWrite other table key change) = other ≢ session
IsOfOthers session (RefuseWrite other) = other ≢ session
IsOfOthers session (PrepareAt other stamp) = other ≢ session
IsOfOthers session (CommitAt other commit durable) = other ≢ session
IsOfOthers session (StartLeaving other) = other ≢ session
IsOfOthers session (EndTransaction other) = other ≢ session
IsOfOthers session _ = Unit {0}

abbrev pub AllOfOthers : ℕ → List Event → Type 0
AllOfOthers session [] = Unit {0}
AllOfOthers session (event ∷ later) = IsOfOthers session event × AllOfOthers session later

-- no write of the key, and no rollback to stable
abbrev pub IsElsewhere : ℕ → List ℕ → Event → Type 0
IsElsewhere table key (AcceptWrite session number other change) = number ≡ table → other ≡ key → ⊥
IsElsewhere table key RollbackToStable = ⊥
IsElsewhere table key _ = Unit {0}

-- no event of who holds one of these updates
abbrev pub TouchesNone : Machine → List Update → Event → Type 0
TouchesNone m chain event = (u : Update) → Member u chain → (s : ℕ) (t : Transaction) → transaction_of m s ≡ Some t → u.version.window.name ≡ name_of m t → IsOfOthers s event
