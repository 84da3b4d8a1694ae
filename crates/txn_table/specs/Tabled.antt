-- What the table keeps, and what each call makes of it.
use Rattle.std.specs.Prelude.{◌≡◌, ℕ, ◌+◌, ◌-◌, ◌<◌, ◌≤◌, ◌==◌, Bool, true, not, min, List, [], ◌∷◌, ◌++◌, length, filter, fold, Option, Some, None, option_map, if◌then◌else◌, slice_index_or, slice_set, replicate}
use Rattle.std.specs.List.{filter_map, sum_by}
use Rattle.limits.specs.declared.TheConstants.{SESSIONS_MAX}
use Rattle.stamp.specs.declared.Name.{Name}
use Rattle.snapshot.specs.Sight.{Sight, SnapshotValue, Ascends, counting, is_listed, sight_at, with_id}
use Rattle.txn_table.specs.declared.written_leaf.WrittenLeaf.{WrittenLeaf}
use Rattle.txn_table.specs.declared.phase.Phase.{Phase}
use Rattle.txn_table.specs.declared.phase.Phase.TheVariants.{Idle, Running}
use Rattle.txn_table.specs.SessionData.{SessionData, opened, is_idle, is_unreleased, unended_id, runs}

-- running: the ids that are drawn and not released
pub record Table : Type 0 where
  pub run : ℕ
  pub next : ℕ
  pub running : List ℕ
  -- by session
  pub sessions : List SessionData

abbrev pub session_of : Table → ℕ → SessionData
session_of t session = slice_index_or t.sessions session (opened t.run)

abbrev pub phase_of : Table → ℕ → Phase
phase_of t session = (session_of t session).phase

abbrev pub with_session : Table → ℕ → SessionData → Table
with_session t session state = record t { sessions = slice_set t.sessions session state }

-- the ids but this one
abbrev pub without : ℕ → List ℕ → List ℕ
without id ids = filter (λ other. not (other == id)) ids

-- of a run that begins, with this many sessions open
abbrev pub fresh : ℕ → ℕ → Table
fresh run sessions = record { run = run; next = 1; running = []; sessions = replicate sessions (opened run) }

-- ---- calls

abbrev pub one_more : Table → Table
one_more t = record t { sessions = t.sessions ++ opened t.run ∷ [] }

abbrev pub begun : Table → ℕ → ℕ → Table
begun t session read = with_session t session (record { phase = Running; id = 0; read = read; sight = sight_at t.run t.next t.running; written = [] })

-- with the next id
abbrev pub drawn : Table → ℕ → Table
drawn t session = record { run = t.run; next = t.next + 1; running = t.running ++ t.next ∷ []; sessions = slice_set t.sessions session (record (session_of t session) { id = t.next }) }

abbrev pub registered : Table → ℕ → WrittenLeaf → Table
registered t session leaf = with_session t session (record (session_of t session) { written = (session_of t session).written ++ leaf ∷ [] })

-- what the session wrote is handed out
abbrev pub taken_from : Table → ℕ → Table
taken_from t session = with_session t session (record (session_of t session) { written = [] })

abbrev pub in_phase : Table → ℕ → Phase → Table
in_phase t session phase = with_session t session (record (session_of t session) { phase = phase })

-- in another phase, and its id no longer running
abbrev pub released_in : Table → ℕ → Phase → Table
released_in t session phase = record (in_phase t session phase) { running = without (session_of t session).id t.running }

-- a transaction that leaves was not released; one that is resolving was
abbrev pub ended : Table → ℕ → Table
ended t session = if is_unreleased (phase_of t session) then released_in t session Idle else in_phase t session Idle

-- ---- looks

-- the lowest session in a phase that passes
abbrev pub first_in : (Phase → Bool) → ℕ → List SessionData → Option ℕ
first_in test at [] = None
first_in test at (s ∷ later) = if test s.phase then Some at else first_in test (at + 1) later

abbrev pub read_of : SessionData → Option ℕ
read_of s = if is_idle s.phase then None else (if s.read == 0 then None else Some s.read)

abbrev pub min_of : SessionData → Option ℕ
min_of s = if is_idle s.phase then None else Some s.sight.min

-- the lower of two, or the one that is there
abbrev pub lower_of : ℕ → Option ℕ → ℕ
lower_of value None = value
lower_of value (Some other) = min value other

abbrev pub sight_in : Option SnapshotValue → Option Sight
sight_in None = None
sight_in (Some k) = Some k.sight

-- the least of oldest, of the oldest that a checkpoint recorded, and of the active read stamps
abbrev pub pin_of : Table → ℕ → Option ℕ → ℕ
pin_of t oldest recorded = fold min (lower_of oldest recorded) (filter_map read_of t.sessions)

-- the least min of the active snapshots and of the checkpoint's, or the next id
abbrev pub floor_of : Table → Option Sight → Name
floor_of t checkpoint = record { run = t.run; id = fold min (lower_of t.next (option_map (λ (s : Sight). s.min) checkpoint)) (filter_map min_of t.sessions) }

-- a snapshot that counts one id more as running, or none
abbrev pub counted : Sight → Option ℕ → Sight
counted s None = s
counted s (Some id) = counting s id

-- ascending, the ids of all transactions that have not ended: the running ones, and those that are prepared or resolving
abbrev pub unended : Table → List ℕ
unended t = fold with_id [] (filter_map unended_id t.sessions)

-- ---- what holds of every table

pub record IsTable (t : Table) : Type 0 where
  pub ascending : Ascends 1 t.running t.next
  -- whose id is running
  pub listed : (s : ℕ) → runs (session_of t s) ≡ true → is_listed t.running (session_of t s).id ≡ true
  pub each : (id : ℕ) → is_listed t.running id ≡ true → (s : ℕ) × (s < length t.sessions) × (runs (session_of t s) ≡ true) × ((session_of t s).id ≡ id)
  -- an id was drawn, or is 0
  pub drawn : (s : ℕ) → (session_of t s).id < t.next
  -- no two have one running id
  pub distinct : (s r : ℕ) → runs (session_of t s) ≡ true → runs (session_of t r) ≡ true → (session_of t s).id ≡ (session_of t r).id → s ≡ r

abbrev pub weight : SessionData → ℕ
weight s = if runs s then 1 else 0

-- at most one running id for each of at most 64 sessions
pub record HasRoom (t : Table) : Type 0 where
  pub table : IsTable t
  pub few : length t.running ≤ sum_by weight t.sessions
  pub sessions : length t.sessions ≤ SESSIONS_MAX

-- with room for the ids that run and the sessions that are open, and with those that are not open yet
pub record IsStocked (t : Table) (id_room session_room : ℕ) (unopened : List SessionData) : Type 0 where
  pub room : HasRoom t
  pub ids : SESSIONS_MAX ≤ id_room
  pub places : SESSIONS_MAX ≤ session_room
  pub spare : unopened ≡ replicate (SESSIONS_MAX - length t.sessions) (opened t.run)
