-- The machine of transactions, and what each event makes of it.
use Rattle.std.specs.Prelude.{ℕ, ◌+◌, not, ◌==◌, max, List, [], ◌∷◌, ◌++◌, length, map, filter, replicate, Option, Some, None, if◌then◌else◌, option_map, slice_index_or, slice_set}
use Rattle.limits.specs.declared.TheConstants.{CURSORS_MAX}
use Rattle.item.specs.declared.Change.{Change}
use Rattle.stamp.specs.declared.Name.{Name}
use Rattle.failure.specs.declared.Fault.{Fault}
use Rattle.kv_model.specs.History.{Entry, Create, Commit, Prepare, Resolve, Undo, Rts, Write, Table, writes_at, cut}

pub data Phase : Type 0 where
  Running : Phase
  -- a write was refused by Rollback
  Failed : Phase
  Prepared : (stamp : ℕ) → Phase
  -- its Resolve or Undo stands in the history, its updates are being changed
  Resolving : Phase
  -- refused or rolled back, its updates are being taken out
  Leaving : Phase

-- id is 0 until the first write; start is the length of the history at Begin; read is 0 for none
pub record Transaction : Type 0 where
  pub id : ℕ
  pub start : ℕ
  pub read : ℕ
  -- one at most of each key
  pub writes : List Write
  pub phase : Phase

-- where a cursor stands
pub record Position : Type 0 where
  pub table : ℕ
  pub key : List ℕ

-- a checkpoint of the first entries of the history, which runs
pub record Checkpoint : Type 0 where
  pub prefix : ℕ
  pub oldest : ℕ
  pub stable : ℕ

-- what a checkpoint that is complete holds
pub record Completed : Type 0 where
  pub content : List Entry
  pub oldest : ℕ
  pub stable : ℕ

pub record Machine : Type 0 where
  pub history : List Entry
  pub run : ℕ
  -- the next id of this run
  pub next : ℕ
  -- 0 is unset, of stable too
  pub oldest : ℕ
  pub stable : ℕ
  -- by session; None: no transaction
  pub sessions : List (Option Transaction)
  -- by session, then by cursor; None: not positioned
  pub cursors : List (List (Option Position))
  pub checkpoint : Option Checkpoint
  pub completed : Completed
  -- the rollbacks to stable that were done
  pub rollbacks : ℕ
  -- the write or sync of the device that failed; None: up
  pub fault : Option Fault

abbrev pub of_some : {A B : Type 0} → B → (A → B) → Option A → B
of_some b f None = b
of_some b f (Some a) = f a

abbrev pub transaction_of : Machine → ℕ → Option Transaction
transaction_of m session = slice_index_or m.sessions session None

abbrev pub cursors_of : Machine → ℕ → List (Option Position)
cursors_of m session = slice_index_or m.cursors session []

abbrev pub cursor_of : Machine → ℕ → ℕ → Option Position
cursor_of m session cursor = slice_index_or (cursors_of m session) cursor None

-- the cursors of a session, none of them positioned
abbrev pub no_cursors : List (Option Position)
no_cursors = replicate CURSORS_MAX None

abbrev pub with_transaction : Machine → ℕ → Option Transaction → Machine
with_transaction m session t = record m { sessions = slice_set m.sessions session t }

-- the end of a transaction resets its cursors
abbrev pub without_transaction : Machine → ℕ → Machine
without_transaction m session = record m { sessions = slice_set m.sessions session None; cursors = slice_set m.cursors session no_cursors }

-- changes the session's transaction, if it has one
abbrev pub changing : Machine → ℕ → (Transaction → Transaction) → Machine
changing m session change = with_transaction m session (option_map change (transaction_of m session))

abbrev pub name_in : ℕ → Transaction → Name
name_in run t = record { run = run; id = t.id }

abbrev pub name_of : Machine → Transaction → Name
name_of m t = name_in m.run t

-- the own writes with one more, in place of an earlier one of its key
abbrev pub joined : Write → List Write → List Write
joined w writes = w ∷ filter (λ o. not (writes_at w.table w.key o)) writes

-- every write of a call's commit has its stamps
abbrev pub stamped : ℕ → ℕ → List Write → List Write
stamped commit durable writes = map {A = Write} (λ w. record w { commit = commit; durable = durable }) writes

-- nothing joins the history for a transaction without writes
abbrev pub appended : List Write → Entry → List Entry → List Entry
appended [] entry history = history
appended (w ∷ writes) entry history = entry ∷ history

pub data Event : Type 0 where
  OpenSession : Event
  BeginAt : (session read : ℕ) → Event
  DrawId : (session : ℕ) → Event
  AcceptWrite : (session table : ℕ) (key : List ℕ) (change : Change) → Event
  RefuseWrite : (session : ℕ) → Event
  PrepareAt : (session stamp : ℕ) → Event
  -- the deciding event of a commit that is accepted
  CommitAt : (session commit durable : ℕ) → Event
  -- a running transaction's commit refused by a zero stamp or a stamp rule, or the first event of a rollback
  StartLeaving : (session : ℕ) → Event
  -- the last event of a commit or rollback that was not done at once
  EndTransaction : (session : ℕ) → Event
  PlaceCursor : (session cursor : ℕ) (position : Option Position) → Event
  CreateTable : (table : Table) → Event
  SetStamps : (oldest stable : ℕ) → Event
  RollbackToStable : Event
  CheckpointStart : Event
  CheckpointFinish : Event
  -- a checkpoint that met NoSpace ends
  CheckpointDrop : Event
  GoDown : (fault : Fault) → Event
  Nothing : Event

abbrev pub in_phase : Phase → Transaction → Transaction
in_phase phase t = record t { phase = phase }

-- what an accepted commit leaves, by the phase
abbrev pub decided : Phase → Machine → ℕ → ℕ → ℕ → Transaction → Machine
decided (Prepared p) m session commit durable t =
    record (with_transaction m session (Some (in_phase Resolving t))) { history = appended t.writes (Resolve (name_of m t) (stamped commit durable t.writes)) m.history }
decided _ m session commit durable t =
    record (without_transaction m session) { history = appended t.writes (Commit (name_of m t) (stamped commit durable t.writes)) m.history }

-- what the first event of a rollback leaves, by the phase
abbrev pub left : Phase → Machine → ℕ → Transaction → Machine
left (Prepared p) m session t =
    record (with_transaction m session (Some (in_phase Resolving t))) { history = appended t.writes (Undo (name_of m t)) m.history }
left Resolving m session t = m
left _ m session t = with_transaction m session (Some (in_phase Leaving t))

abbrev pub prepared : Machine → ℕ → ℕ → Transaction → Machine
prepared m session stamp t =
    record (with_transaction m session (Some (in_phase (Prepared stamp) t))) { history = appended t.writes (Prepare (name_of m t) stamp) m.history }

abbrev pub begun : Machine → ℕ → Transaction
begun m read = record { id = 0; start = length m.history; read = read; writes = []; phase = Running }

abbrev pub unstamped : ℕ → List ℕ → Change → Write
unstamped table key change = record { table = table; key = key; change = change; commit = 0; durable = 0 }

abbrev pub written : ℕ → List ℕ → Change → Transaction → Transaction
written table key change t = record t { writes = joined (unstamped table key change) t.writes }

abbrev pub finished : Machine → Checkpoint → Machine
finished m c = record m { completed = record { content = cut m.history c.prefix c.stable; oldest = c.oldest; stable = c.stable }; checkpoint = None }

-- what an event leaves
abbrev pub after : Machine → Event → Machine
after m OpenSession = record m { sessions = m.sessions ++ None ∷ []; cursors = m.cursors ++ no_cursors ∷ [] }
after m (BeginAt session read) = with_transaction m session (Some (begun m read))
after m (DrawId session) = record (changing m session (λ t. record t { id = m.next })) { next = m.next + 1 }
after m (AcceptWrite session table key change) = changing m session (written table key change)
after m (RefuseWrite session) = changing m session (in_phase Failed)
after m (PrepareAt session stamp) = of_some m (prepared m session stamp) (transaction_of m session)
after m (CommitAt session commit durable) = of_some m (λ t. decided t.phase m session commit durable t) (transaction_of m session)
after m (StartLeaving session) = of_some m (λ t. left t.phase m session t) (transaction_of m session)
after m (EndTransaction session) = without_transaction m session
after m (PlaceCursor session cursor position) = record m { cursors = slice_set m.cursors session (slice_set (cursors_of m session) cursor position) }
after m (CreateTable table) = record m { history = Create table ∷ m.history }
after m (SetStamps oldest stable) = record m { oldest = max m.oldest oldest; stable = max m.stable stable }
after m RollbackToStable = record m { history = if m.stable == 0 then m.history else Rts m.stable ∷ m.history; rollbacks = m.rollbacks + 1 }
after m CheckpointStart = record m { checkpoint = Some (record { prefix = length m.history; oldest = m.oldest; stable = m.stable }) }
after m CheckpointFinish = of_some m (finished m) m.checkpoint
after m CheckpointDrop = record m { checkpoint = None }
after m (GoDown fault) = record m { fault = Some fault }
after m Nothing = m
