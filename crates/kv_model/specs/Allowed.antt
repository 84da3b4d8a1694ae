-- When an event may come.
use Rattle.std.specs.Prelude.{◌≡◌, ◌⊎◌, ◌<◌, ◌≤◌, ℕ, true, max, length, Some, None}
use Rattle.kv_model.specs.History.{tables, has_table}
use Rattle.kv_model.specs.Ordered.{IsNewTable}
use Rattle.kv_model.specs.Machine.{Machine, Transaction, Phase, Running, Prepared, Resolving, transaction_of, Event, BeginAt, DrawId, AcceptWrite, RefuseWrite, PrepareAt, CommitAt, EndTransaction, PlaceCursor, CreateTable, SetStamps, RollbackToStable, CheckpointStart}
use Rattle.kv_model.specs.Reads.{MayWrite, IsEnding}

-- the session has a transaction of which this holds
abbrev pub HasTransaction : Machine → ℕ → (Transaction → Type 0) → Type 0
HasTransaction m session P = (t : Transaction) × (transaction_of m session ≡ Some t) × P t

-- oldest is at most stable where both are set
abbrev pub StampsFit : ℕ → ℕ → Type 0
StampsFit oldest stable = (stable ≡ 0) ⊎ (oldest ≤ stable)

-- a commit in this phase: the stamps that it may have
abbrev pub CommitsAt : Phase → ℕ → ℕ → Type 0
CommitsAt Running commit durable = commit ≡ durable
CommitsAt (Prepared stamp) commit durable = (stamp ≤ commit) × (commit ≤ durable)
CommitsAt _ commit durable = ⊥

-- no checkpoint is running
abbrev pub NoCheckpointRuns : Machine → Type 0
NoCheckpointRuns m = m.checkpoint ≡ None

abbrev pub Allowed : Machine → Event → Type 0
Allowed m (BeginAt session read) = (session < length m.sessions) × (transaction_of m session ≡ None) × ((read ≡ 0) ⊎ (m.oldest ≤ read))
Allowed m (DrawId session) = HasTransaction m session (λ t. (t.phase ≡ Running) × (t.id ≡ 0))
Allowed m (AcceptWrite session table key change) = HasTransaction m session (λ t. (t.phase ≡ Running) × (0 < t.id) × MayWrite m session t table key × (has_table (tables m.history) table ≡ true))
Allowed m (RefuseWrite session) = HasTransaction m session (λ t. t.phase ≡ Running)
Allowed m (PrepareAt session stamp) = HasTransaction m session (λ t. t.phase ≡ Running) × (m.stable < stamp)
Allowed m (CommitAt session commit durable) = HasTransaction m session (λ t. CommitsAt t.phase commit durable)
Allowed m (EndTransaction session) = HasTransaction m session (λ t. IsEnding t.phase)
Allowed m (PlaceCursor session cursor position) = HasTransaction m session (λ t. t.phase ≡ Running)
Allowed m (CreateTable table) = IsNewTable table m.history × (0 < table.number)
Allowed m (SetStamps oldest stable) = StampsFit (max m.oldest oldest) (max m.stable stable)
Allowed m RollbackToStable = ((session : ℕ) → transaction_of m session ≡ None) × NoCheckpointRuns m
Allowed m CheckpointStart = NoCheckpointRuns m × ((session : ℕ) (t : Transaction) → transaction_of m session ≡ Some t → t.phase ≡ Resolving → ⊥)
Allowed m _ = Unit {0}
