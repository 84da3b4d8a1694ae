-- The names that a snapshot has to tell apart, and the ids that are running.
use Rattle.std.specs.Prelude.{◌≡◌, ◌⊎◌, ◌<◌, ◌≤◌, ℕ, true, false, List, length, Some}
use Rattle.stamp.specs.declared.Name.{Name}
use Rattle.kv_model.specs.Holds.{Member}
use Rattle.kv_model.specs.History.{Write, released, committed}
use Rattle.kv_model.specs.Machine.{Machine, Transaction, Phase, Prepared, Resolving, transaction_of, name_of}
use Rattle.snapshot.specs.Sight.{Sight, is_seen, is_listed}

abbrev pub HasWrites : Transaction → Type 0
HasWrites t = (w : Write) × Member w t.writes

-- prepared or resolving, a transaction counts where it has writes
abbrev pub Counts : Phase → Transaction → Type 0
Counts (Prepared stamp) t = HasWrites t
Counts Resolving t = HasWrites t
Counts _ t = Unit {0}

-- the name of a transaction that has not ended
pub record IsLive (m : Machine) (x : Name) : Type 0 where
  pub session : ℕ
  pub transaction : Transaction
  pub there : transaction_of m session ≡ Some transaction
  pub drawn : 0 < transaction.id
  pub name : x ≡ name_of m transaction
  pub counts : Counts transaction.phase transaction

-- it was released, or has not ended
abbrev pub Matters : Machine → Name → Type 0
Matters m x = (released m.history (length m.history) x ≡ true) ⊎ IsLive m x

-- neither prepared nor resolving
abbrev pub IsUnreleased : Phase → Type 0
IsUnreleased (Prepared stamp) = ⊥
IsUnreleased Resolving = ⊥
IsUnreleased _ = Unit {0}

-- an id of a transaction that may still be released
pub record IsRunning (m : Machine) (id : ℕ) : Type 0 where
  pub session : ℕ
  pub transaction : Transaction
  pub there : transaction_of m session ≡ Some transaction
  pub drawn : 0 < id
  pub same : transaction.id ≡ id
  pub phase : IsUnreleased transaction.phase

-- the running ids are exactly these
pub record AreRunning (m : Machine) (ids : List ℕ) : Type 0 where
  pub each : (id : ℕ) → is_listed ids id ≡ true → IsRunning m id
  pub all : (id : ℕ) → IsRunning m id → is_listed ids id ≡ true

-- a snapshot of the first n entries: of the names that matter it sees those that were released in them
pub record SeesFirst (m : Machine) (n : ℕ) (s : Sight) : Type 0 where
  pub run : s.run ≡ m.run
  pub order : s.min ≤ s.max
  pub drawn : s.max ≤ m.next
  pub within : n ≤ length m.history
  pub sees : (x : Name) → Matters m x → is_seen s x ≡ released m.history n x

-- ---- checkpoints

-- an id of a transaction that has not ended
pub record IsUnended (m : Machine) (id : ℕ) : Type 0 where
  pub session : ℕ
  pub transaction : Transaction
  pub there : transaction_of m session ≡ Some transaction
  pub drawn : 0 < id
  pub same : transaction.id ≡ id

-- the ids of the transactions that have not ended are exactly these
pub record AreUnended (m : Machine) (ids : List ℕ) : Type 0 where
  pub each : (id : ℕ) → is_listed ids id ≡ true → IsUnended m id
  pub all : (id : ℕ) → IsUnended m id → is_listed ids id ≡ true

-- no prepared transaction is being resolved
abbrev pub NoneResolves : Machine → Type 0
NoneResolves m = (session : ℕ) (t : Transaction) → transaction_of m session ≡ Some t → t.phase ≡ Resolving → ⊥

-- it was committed, or has not ended: what stands in a page has such a name
abbrev pub MattersToCheckpoints : Machine → Name → Type 0
MattersToCheckpoints m x = (committed m.history (length m.history) x ≡ true) ⊎ IsLive m x

-- a checkpoint's snapshot of the first n entries: of these names it sees those that were committed in them
pub record SeesCommitted (m : Machine) (n : ℕ) (s : Sight) : Type 0 where
  pub run : s.run ≡ m.run
  pub order : s.min ≤ s.max
  pub drawn : s.max ≤ m.next
  pub within : n ≤ length m.history
  pub sees : (x : Name) → MattersToCheckpoints m x → is_seen s x ≡ committed m.history n x

-- a snapshot of this run that sees nothing of a transaction that has not ended, nor of one that comes
pub record SeesNoneLiving (m : Machine) (s : Sight) : Type 0 where
  pub run : s.run ≡ m.run
  pub order : s.min ≤ s.max
  pub drawn : s.max ≤ m.next
  pub unseen : (x : Name) → IsLive m x → is_seen s x ≡ false
