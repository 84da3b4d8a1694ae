-- A table that stands for the sessions of a machine goes on to stand for them, over its calls and over all other events.
use Rattle.std.specs.Prelude.{◌≡◌, ◌⊎◌, ◌<◌, ◌+◌, ℕ, true, false, length, replicate, Option, Some, option_map}
use Rattle.stamp.specs.declared.Name.{Name}
use Rattle.kv_model.specs.Machine.{Machine, Checkpoint, Event, OpenSession, BeginAt, DrawId, AcceptWrite, RefuseWrite, PrepareAt, CommitAt, StartLeaving, EndTransaction, PlaceCursor, CreateTable, SetStamps, RollbackToStable, CheckpointStart, CheckpointFinish, CheckpointDrop, GoDown, Nothing, after}
use Rattle.kv_model.specs.Allowed.{Allowed}
use Rattle.kv_model.specs.Valid.{Valid}
use Rattle.kv_model.specs.Closing.{after_all}
use Rattle.kv_model.specs.Decisions.{first_session, is_resolving as model_resolving}
use Rattle.kv_model.specs.Content.{Content, start}
use Rattle.kv_model.specs.Droppable.{pin}
use Rattle.snapshot.specs.Sight.{Sight, is_seen}
use Rattle.snapshot.specs.Past.{is_below}
use Rattle.txn_table.specs.declared.written_leaf.WrittenLeaf.{WrittenLeaf}
use Rattle.txn_table.specs.declared.phase.Phase.TheVariants.{Idle, Running, Failed, Prepared, Resolving, Leaving}
use Rattle.txn_table.specs.SessionData.{is_idle, is_busy, is_resolving}
use Rattle.txn_table.specs.Tabled.{Table, fresh, session_of, phase_of, one_more, begun, drawn, registered, taken_from, in_phase, released_in, ended, first_in, floor_of, pin_of}
use Rattle.txn_table.specs.Stands.{TableStands}

-- an event that changes no session's phase, id, snapshot or read stamp
abbrev pub IsBeside : Event → Type 0
IsBeside (AcceptWrite session table key change) = Unit {0}
IsBeside (RefuseWrite session) = Unit {0}
IsBeside (PlaceCursor session cursor position) = Unit {0}
IsBeside (CreateTable table) = Unit {0}
IsBeside (SetStamps oldest stable) = Unit {0}
IsBeside RollbackToStable = Unit {0}
IsBeside CheckpointStart = Unit {0}
IsBeside CheckpointFinish = Unit {0}
IsBeside CheckpointDrop = Unit {0}
IsBeside (GoDown fault) = Unit {0}
IsBeside Nothing = Unit {0}
IsBeside _ = ⊥

pub record CallsStand (t : Table) (m : Machine) : Type 0 where
  pub opens : TableStands (one_more t) (after m OpenSession)
  pub begins : (s read : ℕ) → Allowed m (BeginAt s read) → TableStands (begun t s read) (after m (BeginAt s read))
  pub draws : (s : ℕ) → Allowed m (DrawId s) → TableStands (drawn t s) (after m (DrawId s))
  pub registers : (s : ℕ) (leaf : WrittenLeaf) → s < length t.sessions → TableStands (registered t s leaf) m
  pub takes : (s : ℕ) → s < length t.sessions → TableStands (taken_from t s) m
  pub fails : (s : ℕ) → Allowed m (RefuseWrite s) → TableStands (in_phase t s Failed) (after m (RefuseWrite s))
  pub prepares : (s stamp : ℕ) → Allowed m (PrepareAt s stamp) → TableStands (released_in t s (Prepared stamp)) (after m (PrepareAt s stamp))
  -- a commit of a transaction that is not prepared, and of one that is
  pub releases : (s commit durable : ℕ) → Allowed m (CommitAt s commit durable) → phase_of t s ≡ Running → TableStands (released_in t s Idle) (after m (CommitAt s commit durable))
  pub resolves : (s commit durable stamp : ℕ) → Allowed m (CommitAt s commit durable) → phase_of t s ≡ Prepared stamp → TableStands (in_phase t s Resolving) (after m (CommitAt s commit durable))
  -- a rollback of a transaction that is not prepared, and of one that is
  pub leaves : (s : ℕ) → (phase_of t s ≡ Running) ⊎ (phase_of t s ≡ Failed) → TableStands (in_phase t s Leaving) (after m (StartLeaving s))
  -- a page's event began the rollback, of which the table learns later
  pub lags : (s : ℕ) → (phase_of t s ≡ Running) ⊎ (phase_of t s ≡ Failed) → TableStands t (after m (StartLeaving s))
  pub undoes : (s stamp : ℕ) → phase_of t s ≡ Prepared stamp → TableStands (in_phase t s Resolving) (after m (StartLeaving s))
  pub ends : (s : ℕ) → Allowed m (EndTransaction s) → TableStands (ended t s) (after m (EndTransaction s))
  pub others : (event : Event) → IsBeside event → Allowed m event → TableStands t (after m event)

-- the table of the run that an opening begins stands for the machine that the opening makes, and goes on to as sessions are opened
abbrev pub NewTablesStand : Type 0
NewTablesStand = (c : Content) (sessions : ℕ) → TableStands (fresh (c.run + 1) sessions) (after_all (start c) (replicate sessions OpenSession))

abbrev pub CallsGoOn : Type 0
CallsGoOn = (t : Table) (m : Machine) → Valid m → TableStands t m → CallsStand t m

-- the snapshot of each session that has a transaction sees the name; so does the checkpoint's
pub record IsSeenByAll (t : Table) (checkpoint : Option Sight) (x : Name) : Type 0 where
  pub sessions : (s : ℕ) → is_idle (phase_of t s) ≡ false → is_seen (session_of t s).sight x ≡ true
  pub checkpoints : (c : Sight) → checkpoint ≡ Some c → c.run ≡ t.run → is_seen c x ≡ true

-- each name below the floor is seen by all
abbrev pub FloorsAreSeen : Type 0
FloorsAreSeen = (t : Table) (m : Machine) (checkpoint : Option Sight) (x : Name) → TableStands t m → is_below x (floor_of t checkpoint) ≡ true → IsSeenByAll t checkpoint x

-- the pin stamp is the machine's
abbrev pub PinsAreTheMachines : Type 0
PinsAreTheMachines = (t : Table) (m : Machine) → TableStands t m → pin_of t m.oldest (option_map (λ (c : Checkpoint). c.oldest) m.checkpoint) ≡ pin m

-- so are the lowest session with a transaction, and the lowest whose transaction is resolving
pub record LowestAre (t : Table) (m : Machine) : Type 0 where
  pub active : first_in is_busy 0 t.sessions ≡ first_session (λ x. true) 0 m.sessions
  pub resolving : first_in is_resolving 0 t.sessions ≡ first_session (λ x. model_resolving x.phase) 0 m.sessions

abbrev pub LowestAreTheMachines : Type 0
LowestAreTheMachines = (t : Table) (m : Machine) → TableStands t m → LowestAre t m
