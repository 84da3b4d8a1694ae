-- The answers that the plain program chooses where the model leaves a choice: a conflict with a transaction that is met and has not been decided, else the value.
use Rattle.std.specs.Prelude.{ℕ, ◌+◌, Bool, false, not, ◌&&◌, ◌==◌, nat_lt, List, [], ◌∷◌, Option, Some, None, MatchOption, if◌then◌else◌}
use Rattle.item.specs.declared.Change.{Change}
use Rattle.stamp.specs.declared.Name.{Name}
use Rattle.stamp.specs.declared.Version.{Version}
use Rattle.kv_model.specs.History.{Entry, Prepare, Write, name_eq, reads_at, line, value, put_of}
use Rattle.kv_model.specs.Machine.{Machine, Transaction, name_of}
use Rattle.kv_model.specs.Reads.{own_write, is_own, prepared_in, may_follow, Found, Value, Conflict, MayWrite, MustNotWrite}
use Rattle.kv_model.specs.Closing.{is_ending}

-- the entry, under which there are this many, prepares x for a reader
abbrev pub prepares : Entry → ℕ → ℕ → ℕ → Name → Bool
prepares (Prepare name stamp) at n read x = name_eq name x && (nat_lt at n && reads_at read stamp)
prepares _ at n read x = false

-- the id of the first of these sessions' transactions that passes
abbrev pub first_id : (ℕ → Transaction → Bool) → ℕ → List (Option Transaction) → Option ℕ
first_id test at [] = None
first_id test at (None ∷ later) = first_id test (at + 1) later
first_id test at (Some t ∷ later) = if test at t then Some t.id else first_id test (at + 1) later

-- another session's transaction, not decided yet, that wrote the key
abbrev pub is_holding : ℕ → ℕ → List ℕ → ℕ → Transaction → Bool
is_holding session table key other x = not (other == session) && (is_own (own_write x table key) && not (is_ending x.phase))

-- and that the reader meets
abbrev pub is_met : Machine → ℕ → Transaction → ℕ → List ℕ → ℕ → Transaction → Bool
is_met m session t table key other x = is_holding session table key other x && prepared_in m.history t.start t.read (name_of m x)

abbrev pub met : Machine → ℕ → Transaction → ℕ → List ℕ → Option ℕ
met m session t table key = first_id (is_met m session t table key) 0 m.sessions

abbrev pub holder : Machine → ℕ → ℕ → List ℕ → Option ℕ
holder m session table key = first_id (is_holding session table key) 0 m.sessions

abbrev pub value_unless : Option ℕ → Option (List ℕ) → Found
value_unless None v = Value v
value_unless (Some id) v = Conflict id

abbrev pub own_or : Option Write → Found → Found
own_or (Some w) found = Value (put_of w.change)
own_or None found = found

-- the read of a key that the transaction did not write
abbrev pub read_of_others : Machine → ℕ → Transaction → ℕ → List ℕ → Found
read_of_others m session t table key = value_unless (met m session t table key) (value m.history t.start t.read table key)

-- the read of a key
abbrev pub read_of : Machine → ℕ → Transaction → ℕ → List ℕ → Found
read_of m session t table key = own_or (own_write t table key) (read_of_others m session t table key)

-- the name of a version that the transaction does not admit as the newest
abbrev pub unseen : Machine → Transaction → List (Version Change) → Option Name
unseen m t [] = None
unseen m t (v ∷ older) = if may_follow m t (v ∷ older) then None else Some v.window.name

abbrev pub held_or : Machine → Option ℕ → Option Name → Option Name
held_or m None name = name
held_or m (Some id) name = Some (record { run = m.run; id = id })

abbrev pub unless_own : Option Write → Option Name → Option Name
unless_own (Some w) name = None
unless_own None name = name

-- the name of others for which a write of the key is refused
abbrev pub refusal_of_others : Machine → ℕ → Transaction → ℕ → List ℕ → Option Name
refusal_of_others m session t table key = held_or m (holder m session table key) (unseen m t (line m.history table key))

-- the name for which a write of the key is refused; None: it is accepted
abbrev pub refusal_of : Machine → ℕ → Transaction → ℕ → List ℕ → Option Name
refusal_of m session t table key = unless_own (own_write t table key) (refusal_of_others m session t table key)

-- a write of the key may be accepted where no name is told, and must be refused for one that is
abbrev pub MayWriteUnless : Machine → ℕ → Transaction → ℕ → List ℕ → Option Name → Type 0
MayWriteUnless m session t table key name = MatchOption name (MayWrite m session t table key) (λ name. MustNotWrite m session t table key name)
