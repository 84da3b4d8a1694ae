-- The machine of an engine, with the calls that are under way and what stands of leaves that are in no frame.
use Rattle.std.specs.Prelude.{ℕ, Bool, false, ◌==◌, List, [], Option, if◌then◌else◌, slice_index_or}
use Rattle.wt_code.specs.declared.answers.Answer.{Answer}
use Rattle.kv_model.specs.Machine.{Machine, Event}
use Rattle.item.specs.declared.Change.{Change}
use Rattle.stamp.specs.declared.Version.{Version}
use Rattle.kv_model.specs.Calls.{Call}
use Rattle.row_page.specs.Rows.{Row}

-- what a session does; left: how many steps its call has left at most
pub data Doing : Type 0 where
  Resting : Doing
  -- nothing of its call is decided
  Asked : (call : Call) (left : ℕ) → Doing
  -- its table was found, by this number
  Placed : (call : Call) (table left : ℕ) → Doing
  -- the answer is decided, and comes with this event
  Decided : (answer : Answer (List ℕ)) (event : Event) (left : ℕ) → Doing
  -- its commit or rollback is decided, and its transaction is ending
  Ending : (answer : Answer (List ℕ)) (left : ℕ) → Doing

-- by the id of a leaf and by key: what the history keeps of it, newest first
abbrev pub Records : Type 0
Records = ℕ → List ℕ → List (Version Change)

pub record World : Type 0 where
  pub machine : Machine
  -- by session
  pub sessions : List Doing
  -- by actor of the system: the call that it has started, which one event makes
  pub systems : List (Option Call)
  -- by the id of a leaf: the rows of its block
  pub shelf : ℕ → List Row
  -- what the history keeps of each leaf
  pub records : Records
  -- by session: a leaf has gone out of its frame since the session's call found it
  pub again : ℕ → Bool

abbrev pub doing_of : World → ℕ → Doing
doing_of w session = slice_index_or w.sessions session Resting

-- the world in which the history keeps this of the leaf of this id
abbrev pub with_records : ℕ → (List ℕ → List (Version Change)) → World → World
with_records id kept w = record w { records = λ other key. if other == id then kept key else w.records other key }

-- and in which it keeps nothing of it
abbrev pub without_records : ℕ → World → World
without_records id w = with_records id (λ key. []) w

-- none has since this session's call found one
abbrev pub unset : ℕ → (ℕ → Bool) → ℕ → Bool
unset session again other = if other == session then false else again other
