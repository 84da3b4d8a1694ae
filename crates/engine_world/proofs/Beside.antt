-- What an event of a session leaves to the other sessions.
use Rattle.std.proofs.Common.{◌≡◌, ◌≢◌, ◌<◌, ◌≤◌, ℕ, true, List, length}
use Rattle.std.specs.Prelude.{Option, Some, None}
use Rattle.std.specs.List.{Contains}
use Rattle.item.specs.declared.Change.{Change}
use Rattle.stamp.specs.declared.Name.{Name}
use Rattle.stamp.specs.declared.Version.{Version}
use Rattle.kv_model.specs.Holds.{Member}
use Rattle.kv_model.specs.History.{line}
use Rattle.kv_model.specs.Machine.{Machine, Transaction, transaction_of, cursors_of, name_of, Event, BeginAt, DrawId, AcceptWrite, RefuseWrite, PrepareAt, CommitAt, StartLeaving, EndTransaction, PlaceCursor, Nothing}
use Rattle.kv_model.specs.Pending.{NoneOf}
use Rattle.kv_model.specs.Reads.{own_write, is_own, IsEnding, Value, ReadAnswer}
use Rattle.kv_model.specs.Rows.{Way}
use Rattle.tree_dir.specs.declared.leaf.Leaf.{Leaf}
use Rattle.tree_dir.specs.declared.leaf.Framed.{Framed}
use Rattle.tree_dir.specs.Leaves.{leaf_behind, leaf_under}
use Rattle.tree_dir.specs.Ranges.{low_key}
use Rattle.txn_table.specs.Tabled.{phase_of}
use Rattle.update_chain.specs.declared.update.Update.{Update}
use Rattle.leaf_chains.specs.Slots.{chain_at, slot_of}
use Rattle.call_steps.specs.declared.frame.FramePiece.{FramePiece}
use Rattle.call_steps.specs.declared.hub.Hub.{Hub}
use Rattle.call_steps.specs.declared.stage.Target.{Target}
use Rattle.call_steps.specs.declared.written.WrittenKey.{WrittenKey}
use Rattle.call_steps.specs.Tables.{target_in}
use Rattle.engine_world.specs.Leaves.{frame_of, generation_at, slots_in, table_at}
use Rattle.engine_world.specs.Stages.{IsPast}
use Rattle.engine_world.specs.Walks.{leaves_on}

-- an event of this session alone
abbrev pub IsEventOf : ℕ → Event → Type 0
IsEventOf session (BeginAt s read) = s ≡ session
IsEventOf session (DrawId s) = s ≡ session
IsEventOf session (AcceptWrite s table key change) = s ≡ session
IsEventOf session (RefuseWrite s) = s ≡ session
IsEventOf session (PrepareAt s stamp) = s ≡ session
IsEventOf session (CommitAt s commit durable) = s ≡ session
IsEventOf session (StartLeaving s) = s ≡ session
IsEventOf session (EndTransaction s) = s ≡ session
IsEventOf session (PlaceCursor s cursor position) = s ≡ session
IsEventOf session Nothing = Unit {0}
IsEventOf session _ = ⊥

-- what the machine keeps for each session but this one, also while sessions are opened and stamps are raised
pub record MachineApart (session : ℕ) (m next : Machine) : Type 0 where
  pub run : next.run ≡ m.run
  pub fault : next.fault ≡ m.fault
  pub others : (r : ℕ) → r ≢ session → transaction_of next r ≡ transaction_of m r
  pub cursors : (r : ℕ) → r ≢ session → cursors_of next r ≡ cursors_of m r
  -- the versions under the writes of a transaction that is not ending stay
  pub held : (r : ℕ) (t : Transaction) (table : ℕ) (key : List ℕ) → r ≢ session → transaction_of m r ≡ Some t → (IsEnding t.phase → ⊥) → is_own (own_write t table key) ≡ true → line next.history table key ≡ line m.history table key
  -- what stands goes on to stand
  pub grown : (table : ℕ) (key : List ℕ) (v : Version Change) → Member v (line m.history table key) → Member v (line next.history table key)
  -- none of a name that did not stand stands now, but of the session's own
  pub none : (r : ℕ) (t : Transaction) (table : ℕ) (key : List ℕ) → r ≢ session → transaction_of m r ≡ Some t → 0 < t.id → NoneOf (name_of m t) (line m.history table key) → NoneOf (name_of m t) (line next.history table key)
  -- a key that read as absent goes on to
  pub absent : (r : ℕ) (t : Transaction) (table : ℕ) (key : List ℕ) → r ≢ session → transaction_of m r ≡ Some t → ReadAnswer m r t table key (Value None) → ReadAnswer next r t table key (Value None)

-- what the machine keeps for the others over an event of a session
pub record MachineBeside (session : ℕ) (m next : Machine) : Type 0 where
  pub apart : MachineApart session m next
  pub oldest : next.oldest ≡ m.oldest
  pub stable : next.stable ≡ m.stable
  pub count : length next.sessions ≡ length m.sessions

-- a frame stays with its table and generation, and a key keeps its slot
pub record SlotsStay (pieces later : List FramePiece) : Type 0 where
  pub generations : (frame : ℕ) → generation_at later frame ≡ generation_at pieces frame
  pub tables : (frame : ℕ) → table_at later frame ≡ table_at pieces frame
  pub slots : (frame : ℕ) (key : List ℕ) (i : ℕ) → slot_of key (slots_in pieces frame) ≡ Some i → slot_of key (slots_in later frame) ≡ Some i

-- an update of another name was there before
abbrev pub BringsOnly : Name → List FramePiece → List FramePiece → Type 0
BringsOnly name pieces later = (frame : ℕ) (key : List ℕ) (u : Update) → Member u (chain_at key (slots_in later frame)) → u.version.window.name ≢ name → Member u (chain_at key (slots_in pieces frame))

-- the updates of the other sessions' transactions were there before
abbrev pub OthersUpdates : Machine → ℕ → List FramePiece → List FramePiece → Type 0
OthersUpdates m session pieces later =
    (r : ℕ) (t : Transaction) → r ≢ session → transaction_of m r ≡ Some t → 0 < t.id
    → (frame : ℕ) (key : List ℕ) (u : Update) → Member u (chain_at key (slots_in later frame)) → u.version.window.name ≡ name_of m t → Member u (chain_at key (slots_in pieces frame))

pub record Beside (session : ℕ) (m next : Machine) (hub later : Hub) (pieces pieces' : List FramePiece) : Type 0 where
  pub machine : MachineBeside session m next
  pub tables : later.tables ≡ hub.tables
  pub dir : later.dir ≡ hub.dir
  pub seats : length later.txns.sessions ≡ length hub.txns.sessions
  pub phases : (r : ℕ) → r ≢ session → phase_of later.txns r ≡ phase_of hub.txns r
  pub slots : SlotsStay pieces pieces'
  pub updates : OthersUpdates m session pieces pieces'

-- a leaf as it is later: one that has a frame stays in it, but in the one that its leaf left (freed)
pub record IsAlike (freed : Option ℕ) (l now : Leaf) : Type 0 where
  pub id : now.id ≡ l.id
  pub table : now.table ≡ l.table
  pub key : now.entry.key ≡ l.entry.key
  pub frame : (f : Framed) → l.frame ≡ Some f → freed ≢ Some f.frame → now.frame ≡ Some f

-- a directory says of the leaves that were there what it said; to: what each has become
pub record LeavesKept (freed : Option ℕ) (leaves made : List Leaf) : Type 0 where
  pub to : Leaf → Leaf
  pub alike : (l : Leaf) → IsAlike freed l (to l)
  pub there : (l : Leaf) → Contains leaves l → Contains made (to l)
  pub under : (table : ℕ) (key : List ℕ) (l : Leaf) → leaf_under table key leaves ≡ Some l → leaf_under table key made ≡ Some (to l)
  pub behind : (l : Leaf) → Contains leaves l → low_key (leaf_behind l.id made) ≡ low_key (leaf_behind l.id leaves)
  pub on : (way : Way) (l : Leaf) → Contains leaves l → leaves_on way l.table l.id made ≡ leaves_on way l.table l.id leaves

-- and a frame that has one of them stays with its table, and a key in it keeps its slot, but in the one that its leaf left
pub record LeavesStay (freed : Option ℕ) (leaves made : List Leaf) (pieces later : List FramePiece) : Type 0 where
  pub kept : LeavesKept freed leaves made
  pub tables : (table : ℕ) (key : List ℕ) (frame : ℕ) → frame_of leaves table key ≡ Some frame → freed ≢ Some frame → table_at later frame ≡ table_at pieces frame
  pub slots : (table : ℕ) (key : List ℕ) (frame : ℕ) (other : List ℕ) (i : ℕ) → frame_of leaves table key ≡ Some frame → freed ≢ Some frame → slot_of other (slots_in pieces frame) ≡ Some i → slot_of other (slots_in later frame) ≡ Some i
  -- no frame goes back to an older generation, and the one that its leaf left is past it
  pub older : (frame : ℕ) → generation_at pieces frame ≤ generation_at later frame
  pub past : (l : Leaf) (target : Target) → Contains leaves l → target_in l ≡ Some target → freed ≡ Some target.frame → IsPast later target

-- none of these keys is in the frame that its leaf left
abbrev pub StayWritten : Option ℕ → List WrittenKey → Type 0
StayWritten freed keys = (k : WrittenKey) → Member k keys → freed ≢ Some k.frame

-- so were those of a key's frame, where its leaf has not left it
abbrev pub OthersAtHome : Option ℕ → Machine → ℕ → List Leaf → List FramePiece → List FramePiece → Type 0
OthersAtHome freed m session leaves pieces later =
    (r : ℕ) (t : Transaction) → r ≢ session → transaction_of m r ≡ Some t → 0 < t.id
    → (table : ℕ) (key : List ℕ) (frame : ℕ) → frame_of leaves table key ≡ Some frame → freed ≢ Some frame
    → (u : Update) → Member u (chain_at key (slots_in later frame)) → u.version.window.name ≡ name_of m t → Member u (chain_at key (slots_in pieces frame))

-- what is left to each session but this one, also while sessions are opened, stamps are raised and tables are made
pub record Apart (freed : Option ℕ) (session : ℕ) (m next : Machine) (hub later : Hub) (pieces pieces' : List FramePiece) : Type 0 where
  pub machine : MachineApart session m next
  pub leaves : LeavesStay freed hub.dir.leaves later.dir.leaves pieces pieces'
  pub seats : length hub.txns.sessions ≤ length later.txns.sessions
  pub phases : (r : ℕ) → r ≢ session → phase_of later.txns r ≡ phase_of hub.txns r
  pub updates : OthersAtHome freed m session hub.dir.leaves pieces pieces'
