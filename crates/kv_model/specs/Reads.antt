-- What a read of a key may answer, and whether a write of it is accepted.
use Rattle.std.specs.Prelude.{◌≡◌, ◌≢◌, ℕ, ◌⊎◌, Bool, true, false, ◌&&◌, ◌||◌, nat_lt, List, [], ◌∷◌, length, find, Option, Some, None}
use Rattle.item.specs.declared.Change.{Change}
use Rattle.stamp.specs.declared.Name.{Name}
use Rattle.stamp.specs.declared.Version.{Version}
use Rattle.kv_model.specs.Holds.{Member}
use Rattle.kv_model.specs.Ordered.{NameBelow}
use Rattle.kv_model.specs.History.{Entry, Prepare, Write, line, writes_at, admits, name_eq, reads_at, released, releases, value, put_of}
use Rattle.kv_model.specs.Machine.{Machine, Transaction, Phase, Resolving, Leaving, transaction_of, name_of}

abbrev pub own_write : Transaction → ℕ → List ℕ → Option Write
own_write t table key = find (writes_at table key) t.writes

abbrev pub is_own : Option Write → Bool
is_own None = false
is_own (Some w) = true

-- the session's transaction, which wrote the key
abbrev pub Wrote : Machine → ℕ → ℕ → List ℕ → Transaction → Type 0
Wrote m session table key t = (transaction_of m session ≡ Some t) × (is_own (own_write t table key) ≡ true)

-- x is prepared in the first n entries, at a stamp that the read stamp admits
abbrev pub prepared_in : List Entry → ℕ → ℕ → Name → Bool
prepared_in [] n read x = false
prepared_in (Prepare name stamp ∷ older) n read x = (name_eq name x && (nat_lt (length older) n && reads_at read stamp)) || prepared_in older n read x
prepared_in (_ ∷ older) n read x = prepared_in older n read x

-- the entry is the prepare of x at this stamp
abbrev pub IsPrepareAt : Entry → Name → ℕ → Type 0
IsPrepareAt (Prepare name at) x stamp = (name_eq name x ≡ true) × (at ≡ stamp)
IsPrepareAt _ x stamp = ⊥

-- one entry alone released x: its prepare at this stamp
abbrev pub PreparedAt : List Entry → Name → ℕ → Type 0
PreparedAt [] x stamp = ⊥
PreparedAt (entry ∷ older) x stamp =
    (IsPrepareAt entry x stamp × (released older (length older) x ≡ false)) ⊎ ((releases entry x ≡ false) × PreparedAt older x stamp)

-- another session's transaction, prepared or resolving, that the reader meets at the key
pub record Meets (m : Machine) (session : ℕ) (t : Transaction) (table : ℕ) (key : List ℕ) (other : ℕ) (x : Transaction) : Type 0 where
  pub another : other ≢ session
  pub writer : Wrote m other table key x
  pub before : prepared_in m.history t.start t.read (name_of m x) ≡ true

-- its updates are being changed or taken out
abbrev pub IsEnding : Phase → Type 0
IsEnding Resolving = Unit {0}
IsEnding Leaving = Unit {0}
IsEnding _ = ⊥

-- no other transaction holds an update of the key, but one that is ending
abbrev pub OthersEnding : Machine → ℕ → ℕ → List ℕ → Type 0
OthersEnding m session table key = (other : ℕ) (x : Transaction) → other ≢ session → Wrote m other table key x → IsEnding x.phase

-- no version that stands is of a greater name, and of the others that wrote the key each is ending
pub record IsNewestUpdate (m : Machine) (table : ℕ) (key : List ℕ) (other : ℕ) (x : Transaction) : Type 0 where
  pub stands : (v : Version Change) → Member v (line m.history table key) → NameBelow (name_of m x) v.window.name → ⊥
  pub alone : OthersEnding m other table key

pub data Found : Type 0 where
  -- None is absent
  Value : (value : Option (List ℕ)) → Found
  Conflict : (id : ℕ) → Found

-- a conflict with a transaction that is met, or the value where each that is met is ending
abbrev pub ReadOthers : Machine → ℕ → Transaction → ℕ → List ℕ → Found → Type 0
ReadOthers m session t table key (Value v) =
    (v ≡ value m.history t.start t.read table key)
    × ((other : ℕ) (x : Transaction) → Meets m session t table key other x → IsEnding x.phase)
ReadOthers m session t table key (Conflict id) =
    (other : ℕ) × (x : Transaction) × Meets m session t table key other x × (IsEnding x.phase → IsNewestUpdate m table key other x) × (id ≡ x.id)

abbrev pub ReadAs : Option Write → Machine → ℕ → Transaction → ℕ → List ℕ → Found → Type 0
ReadAs (Some w) m session t table key found = found ≡ Value (put_of w.change)
ReadAs None m session t table key found = ReadOthers m session t table key found

-- the answers to a read of the key: the own write if there is one
abbrev pub ReadAnswer : Machine → ℕ → Transaction → ℕ → List ℕ → Found → Type 0
ReadAnswer m session t table key found = ReadAs (own_write t table key) m session t table key found

-- the newest version that stands is admitted
abbrev pub may_follow : Machine → Transaction → List (Version Change) → Bool
may_follow m t [] = true
may_follow m t (v ∷ older) = admits m.history t.start t.read v

pub record Accepts (m : Machine) (session : ℕ) (t : Transaction) (table : ℕ) (key : List ℕ) : Type 0 where
  pub others : OthersEnding m session table key
  pub newest : may_follow m t (line m.history table key) ≡ true

abbrev pub names_newest : Name → List (Version Change) → Bool
names_newest name [] = false
names_newest name (v ∷ older) = name_eq v.window.name name

-- name is of the newest update: another's that has not ended, or a version that is not admitted
abbrev pub Refuses : Machine → ℕ → Transaction → ℕ → List ℕ → Name → Type 0
Refuses m session t table key name =
    ((other : ℕ) × (x : Transaction) × (other ≢ session) × Wrote m other table key x × (IsEnding x.phase → IsNewestUpdate m table key other x) × (name ≡ name_of m x))
    ⊎ (OthersEnding m session table key × (names_newest name (line m.history table key) ≡ true) × (may_follow m t (line m.history table key) ≡ false))

abbrev pub MayWriteAs : Option Write → Machine → ℕ → Transaction → ℕ → List ℕ → Type 0
MayWriteAs (Some w) m session t table key = Unit {0}
MayWriteAs None m session t table key = Accepts m session t table key

-- a write of the key is accepted
abbrev pub MayWrite : Machine → ℕ → Transaction → ℕ → List ℕ → Type 0
MayWrite m session t table key = MayWriteAs (own_write t table key) m session t table key

abbrev pub MustNotWriteAs : Option Write → Machine → ℕ → Transaction → ℕ → List ℕ → Name → Type 0
MustNotWriteAs (Some w) m session t table key name = ⊥
MustNotWriteAs None m session t table key name = Refuses m session t table key name

-- a write of the key is refused, for the update of this name
abbrev pub MustNotWrite : Machine → ℕ → Transaction → ℕ → List ℕ → Name → Type 0
MustNotWrite m session t table key name = MustNotWriteAs (own_write t table key) m session t table key name

abbrev pub seen_as : Option Write → Option (List ℕ) → Option (List ℕ)
seen_as (Some w) v = put_of w.change
seen_as None v = v

-- what the transaction finds at a key that it may write
abbrev pub present : Machine → Transaction → ℕ → List ℕ → Option (List ℕ)
present m t table key = seen_as (own_write t table key) (value m.history t.start t.read table key)
