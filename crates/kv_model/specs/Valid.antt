-- What every machine has that is reached from an opening by events that may come.
use Rattle.std.specs.Prelude.{◌≡◌, ◌≢◌, ◌⊎◌, ◌<◌, ◌≤◌, ℕ, true, false, List, [], ◌∷◌, ◌++◌, length, filter, Option, Some, None, slice_index_or}
use Rattle.std.specs.Option.{option_to_list}
use Rattle.limits.specs.declared.TheConstants.{CURSORS_MAX}
use Rattle.item.specs.declared.Change.{Change}
use Rattle.stamp.specs.declared.Name.{Name}
use Rattle.stamp.specs.declared.Version.{Version}
use Rattle.kv_model.specs.Holds.{Member}
use Rattle.kv_model.specs.History.{Entry, Rts, Write, line, released, committed, tables, has_table, writes_at}
use Rattle.kv_model.specs.Ordered.{IsOrderly}
use Rattle.kv_model.specs.Machine.{Machine, Transaction, Phase, Prepared, Resolving, Position, Checkpoint, name_in}
use Rattle.kv_model.specs.Captures.{AllFollow}
use Rattle.kv_model.specs.Reads.{own_write, is_own, IsEnding, PreparedAt}
use Rattle.kv_model.specs.Allowed.{StampsFit}

-- no rollback to stable stands above the first n entries
abbrev pub NoRollbackSince : ℕ → List Entry → Type 0
NoRollbackSince n [] = Unit {0}
NoRollbackSince n (Rts stable ∷ older) = length older < n
NoRollbackSince n (_ ∷ older) = NoRollbackSince n older

-- of an earlier run, or drawn in this one
abbrev pub IsDrawn : ℕ → ℕ → Name → Type 0
IsDrawn run next x = (x.run < run) ⊎ ((x.run ≡ run) × (0 < x.id) × (x.id < next))

-- the name was released, where there are writes, and never, where there are none
pub record ReleasedWith (history : List Entry) (name : Name) (written : List Write) : Type 0 where
  pub writes : (w : Write) → Member w written → released history (length history) name ≡ true
  pub empty : written ≡ [] → released history (length history) name ≡ false

abbrev pub IsReleased : List Entry → Name → Transaction → Type 0
IsReleased history name t = ReleasedWith history name t.writes

pub record PreparedStands (stamp : ℕ) (history : List Entry) (name : Name) (t : Transaction) : Type 0 where
  pub marked : 0 < stamp
  pub uncommitted : committed history (length history) name ≡ false
  -- not before it began
  pub later : (n : ℕ) → released history n name ≡ true → t.start ≤ n
  pub released : IsReleased history name t
  -- by its prepare at this stamp, where it has writes
  pub prepared : (w : Write) → Member w t.writes → PreparedAt history name stamp

-- how the history knows a transaction, by its phase
abbrev pub PhaseStands : Phase → List Entry → Name → Transaction → Type 0
PhaseStands (Prepared stamp) history name t = PreparedStands stamp history name t
PhaseStands Resolving history name t = IsReleased history name t
PhaseStands _ history name t = released history (length history) name ≡ false

-- a transaction that has not ended
pub record ValidTransaction (run next : ℕ) (history : List Entry) (t : Transaction) : Type 0 where
  pub id : t.id < next
  pub start : t.start ≤ length history
  -- what stood when it began stands
  pub kept : NoRollbackSince t.start history
  -- what its snapshot sees is of older names
  pub sight : (x : Name) → released history t.start x ≡ true → x.run ≡ run → 0 < t.id → x.id < t.id
  pub undrawn : t.id ≡ 0 → t.writes ≡ []
  -- one write at most of each key, of a table that is there
  pub single : (table : ℕ) (key : List ℕ) → filter (writes_at table key) t.writes ≡ option_to_list (own_write t table key)
  pub placed : (w : Write) → Member w t.writes → has_table (tables history) w.table ≡ true
  -- its snapshot sees each standing version of a key that it wrote
  pub above : (IsEnding t.phase → ⊥) → (table : ℕ) (key : List ℕ) → is_own (own_write t table key) ≡ true → (v : Version Change) → Member v (line history table key) → released history t.start v.window.name ≡ true
  pub phase : PhaseStands t.phase history (name_in run t) t

pub record ValidSessions (run next : ℕ) (history : List Entry) (sessions : List (Option Transaction)) : Type 0 where
  pub each : (s : ℕ) (t : Transaction) → slice_index_or sessions s None ≡ Some t → ValidTransaction run next history t
  -- no two have one id
  pub distinct : (s r : ℕ) (t u : Transaction) → slice_index_or sessions s None ≡ Some t → slice_index_or sessions r None ≡ Some u → s ≢ r → 0 < t.id → t.id ≡ u.id → ⊥
  -- of two that wrote a key one is ending
  pub apart : (s r : ℕ) (t u : Transaction) (table : ℕ) (key : List ℕ) → slice_index_or sessions s None ≡ Some t → slice_index_or sessions r None ≡ Some u → s ≢ r
      → is_own (own_write t table key) ≡ true → is_own (own_write u table key) ≡ true → IsEnding t.phase ⊎ IsEnding u.phase

-- no rollback to stable came since the checkpoint's start, and its recorded stamps are not later than now's
pub record ValidCheckpoint (history : List Entry) (now_oldest now_stable : ℕ) (c : Checkpoint) : Type 0 where
  pub news : List Entry
  pub start : List Entry
  pub whole : history ≡ news ++ start
  pub prefix : c.prefix ≡ length start
  pub follow : AllFollow start news
  pub oldest : c.oldest ≤ now_oldest
  pub stable : c.stable ≤ now_stable
  pub stamps : StampsFit c.oldest c.stable

-- each session has as many cursors as there may be, none of which is positioned where it has no transaction
pub record ValidCursors (sessions : List (Option Transaction)) (cursors : List (List (Option Position))) : Type 0 where
  pub seats : length cursors ≡ length sessions
  pub all : (s : ℕ) → s < length cursors → length (slice_index_or cursors s []) ≡ CURSORS_MAX
  pub reset : (s cursor : ℕ) → slice_index_or sessions s None ≡ None → slice_index_or (slice_index_or cursors s []) cursor None ≡ None

pub record Valid (m : Machine) : Type 0 where
  pub run : 0 < m.run
  pub next : 0 < m.next
  pub orderly : IsOrderly m.history
  pub names : (x : Name) → released m.history (length m.history) x ≡ true → IsDrawn m.run m.next x
  pub stamps : StampsFit m.oldest m.stable
  pub sessions : ValidSessions m.run m.next m.history m.sessions
  pub checkpoint : (c : Checkpoint) → m.checkpoint ≡ Some c → ValidCheckpoint m.history m.oldest m.stable c
  pub cursors : ValidCursors m.sessions m.cursors
