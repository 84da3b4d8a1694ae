-- When a table stands for the sessions of a machine.
use Rattle.std.specs.Prelude.{◌≡◌, ℕ, length, Option, Some, None}
use Rattle.kv_model.specs.Machine.{Machine, Transaction, transaction_of}
use Rattle.snapshot.specs.Matters.{SeesFirst}
use Rattle.txn_table.specs.SessionData.{SessionData, phase_in, MayBe}
use Rattle.txn_table.specs.Tabled.{Table, session_of, IsTable}

-- a session keeps its transaction, and its snapshot sees a name that matters exactly where that
-- was released in the first entries
pub record TransactionStands (m : Machine) (s : SessionData) (t : Transaction) : Type 0 where
  pub phase : MayBe s.phase t.phase
  pub id : s.id ≡ t.id
  pub read : s.read ≡ t.read
  pub sees : SeesFirst m t.start s.sight

abbrev pub SessionStands : Machine → SessionData → Option Transaction → Type 0
SessionStands m s None = phase_in s.phase ≡ None
SessionStands m s (Some t) = TransactionStands m s t

pub record TableStands (t : Table) (m : Machine) : Type 0 where
  pub table : IsTable t
  pub run : t.run ≡ m.run
  pub next : t.next ≡ m.next
  pub count : length t.sessions ≡ length m.sessions
  pub sessions : (s : ℕ) → SessionStands m (session_of t s) (transaction_of m s)
