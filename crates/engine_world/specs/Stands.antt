-- When an engine's data stands for a machine with the calls that are under way.
use Rattle.std.specs.Prelude.{◌≡◌, ◌≤◌, ℕ, List, [], length, map, reverse, Option, Some, option_map, slice_get}
use Rattle.kv_model.specs.History.{Write, tables}
use Rattle.kv_model.specs.Machine.{Machine, Position as ModelPosition, of_some, transaction_of, cursors_of}
use Rattle.kv_model.specs.Valid.{Valid}
use Rattle.std.specs.List.{Contains}
use Rattle.tree_dir.specs.declared.leaf.Leaf.{Leaf}
use Rattle.tree_dir.specs.Leaves.{IsDirectory}
use Rattle.txn_table.specs.SessionData.{phase_in}
use Rattle.txn_table.specs.Stands.{TableStands}
use Rattle.catalog.specs.Known.{AreTables}
use Rattle.wt_calls.specs.declared.system_call.SystemCall.{SystemCall}
use Rattle.wt_calls.specs.Calls.{system_call_in}
use Rattle.call_steps.specs.declared.cursor.Cursor.{Cursor}
use Rattle.call_steps.specs.declared.cursor.Position.{Position}
use Rattle.call_steps.specs.declared.frame.FramePiece.{FramePiece}
use Rattle.call_steps.specs.declared.hub.Hub.{Hub}
use Rattle.call_steps.specs.HubEvents.{IsSeated}
use Rattle.call_steps.specs.State.{State}
use Rattle.engine_world.specs.Worlds.{World, doing_of}
use Rattle.engine_world.specs.Doings.{doing_in}
use Rattle.engine_world.specs.Leaves.{LeafStands, FramesStand, AreNoted, TablesBegun, LeavesOwned}
use Rattle.engine_world.specs.Stages.{IsNoticed, StageStands}

-- the data of an engine: what the sessions share, the frames with their state words, and the sessions with their hazard words
pub record Engine : Type 0 where
  pub hub : Hub
  pub pieces : List FramePiece
  -- by frame
  pub states : List ℕ
  -- five for each session
  pub hazards : List ℕ
  pub sessions : List State
  -- by actor of the system: the call that it has started
  pub systems : List (Option SystemCall)

abbrev pub position_in : Cursor → Option ModelPosition
position_in k = option_map (λ (p : Position). record { table = p.table; key = p.key }) k.position

-- the own writes, where the session has a transaction
abbrev pub writes_in : Machine → ℕ → List Write
writes_in m session = of_some [] (λ t. t.writes) (transaction_of m session)

pub record SessionStands (m : Machine) (hub : Hub) (pieces : List FramePiece) (session : ℕ) (a : State) : Type 0 where
  pub phase : phase_in a.phase ≡ option_map (λ t. t.phase) (transaction_of m session)
  pub seated : IsSeated hub session a
  pub cursors : map position_in a.cursors ≡ cursors_of m session
  pub noted : AreNoted hub.dir.leaves pieces (writes_in m session) a.written
  pub stage : StageStands a.stage m hub.dir.leaves pieces session a

pub record Stands (e : Engine) (w : World) : Type 0 where
  pub valid : Valid w.machine
  pub fault : e.hub.fault ≡ w.machine.fault
  pub stamps : e.hub.stamps ≡ record { oldest = w.machine.oldest; stable = w.machine.stable }
  pub txns : TableStands e.hub.txns w.machine
  pub catalog : AreTables e.hub.tables
  pub made : reverse e.hub.tables.tables ≡ tables w.machine.history
  pub dir : IsDirectory e.hub.dir
  pub begun : TablesBegun e.hub.tables.tables e.hub.dir.leaves
  pub owned : LeavesOwned e.hub.tables.tables e.hub.dir.leaves
  pub leaves : (l : Leaf) → Contains e.hub.dir.leaves l → LeafStands w.machine w.shelf w.records e.hub.dir.leaves e.pieces e.states l
  -- and nothing of a leaf that was never made
  pub unused : (id : ℕ) → e.hub.dir.next ≤ id → (key : List ℕ) → w.records id key ≡ []
  pub frames : FramesStand e.pieces e.states
  pub count : length e.sessions ≡ length w.machine.sessions
  pub doings : length w.sessions ≡ length e.sessions
  pub doing : (session : ℕ) (a : State) → slice_get e.sessions session ≡ Some a → doing_of w session ≡ doing_in e.hub.dir.leaves session a
  pub sessions : (session : ℕ) (a : State) → slice_get e.sessions session ≡ Some a → SessionStands w.machine e.hub e.pieces session a
  pub noticed : (session : ℕ) (a : State) → slice_get e.sessions session ≡ Some a → IsNoticed a.stage e.pieces (w.again session)
  pub systems : map (option_map system_call_in) e.systems ≡ w.systems
