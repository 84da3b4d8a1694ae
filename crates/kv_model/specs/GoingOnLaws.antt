-- What events of others leave of a transaction's reads and of the lines that it writes over.
use Rattle.std.specs.Prelude.{◌≡◌, ◌≢◌, ℕ, true, List, Some}
use Rattle.kv_model.specs.History.{line, value}
use Rattle.kv_model.specs.Machine.{Machine, Transaction, Event, CommitAt, transaction_of, after}
use Rattle.kv_model.specs.Reads.{Meets, IsEnding, own_write, is_own}
use Rattle.kv_model.specs.Allowed.{Allowed}
use Rattle.kv_model.specs.Valid.{Valid}

-- not a commit of this session
abbrev pub IsAnothers : ℕ → Event → Type 0
IsAnothers session (CommitAt other commit durable) = other ≢ session
IsAnothers session _ = Unit {0}

-- who is met at the key was met before, and is ending where it was
abbrev pub MeetsGoOn : Type 0
MeetsGoOn = (m : Machine) (event : Event) (session : ℕ) (t : Transaction) (table : ℕ) (key : List ℕ) (other : ℕ) (x : Transaction) → Valid m → Allowed m event → transaction_of m session ≡ Some t
    → Meets (after m event) session t table key other x → (y : Transaction) × Meets m session t table key other y × (IsEnding y.phase → IsEnding x.phase)

-- a value stays what it is, at a snapshot and a read stamp, for who meets nobody at the key but those that are ending
abbrev pub ReadsGoOn : Type 0
ReadsGoOn = (m : Machine) (event : Event) (session : ℕ) (t : Transaction) (table : ℕ) (key : List ℕ) → Valid m → Allowed m event → transaction_of m session ≡ Some t → IsAnothers session event
    → ((other : ℕ) (x : Transaction) → Meets m session t table key other x → IsEnding x.phase)
    → value (after m event).history t.start t.read table key ≡ value m.history t.start t.read table key

-- the versions that stand under the write of a transaction that is not ending stay
abbrev pub HeldLinesStay : Type 0
HeldLinesStay = (m : Machine) (event : Event) (session : ℕ) (t : Transaction) (table : ℕ) (key : List ℕ) → Valid m → Allowed m event → transaction_of m session ≡ Some t → IsAnothers session event
    → (IsEnding t.phase → ⊥) → is_own (own_write t table key) ≡ true → line (after m event).history table key ≡ line m.history table key
