-- A checkpoint as it is finished, while others are at work: what serves it as a row, and as its history.
use Rattle.std.specs.Prelude.{◌≡◌, ◌⊎◌, ◌<◌, ◌^◌, ◌-◌, ℕ, true, false, MatchOption, List, [], ◌∷◌, Option, Some, option_and_then}
use Rattle.item.specs.declared.Change.{Change}
use Rattle.stamp.specs.declared.Name.{Name}
use Rattle.stamp.specs.declared.Version.{Version}
use Rattle.snapshot.specs.Sight.{Sight, is_seen}
use Rattle.kv_model.specs.Captures.{CapturedIn, UpTo, is_in}
use Rattle.kv_model.specs.History.{Table, has_table, line}
use Rattle.kv_model.specs.Holds.{Member}
use Rattle.kv_model.specs.Machine.{Checkpoint, Machine, name_of, transaction_of}
use Rattle.kv_model.specs.Ordered.{Older}
use Rattle.kv_model.specs.StoreLaws.{Held}
use Rattle.row_page.specs.Rows.{Row}
use Rattle.leaf_rows.specs.Rows.{AreFit}
use Rattle.reconcile.specs.Shows.{shown_at}
use Rattle.stored.specs.HistoryTree.{HistoryRecord}
use Rattle.stored.specs.TableTree.{TableTree}
use Rattle.stored.specs.Tree.{join}
use Rattle.tree_dir.specs.declared.leaf.Leaf.{Leaf}
use Rattle.tree_dir.specs.Leaves.{leaf_under}
use Rattle.engine_world.specs.Stands.{Engine, Stands}
use Rattle.engine_world.specs.Worlds.{World}
use Rattle.engine.specs.Running.{IsRunning}
use Rattle.engine.specs.declared.running_checkpoint.RunningCheckpoint.{RunningCheckpoint}
use Rattle.hist_gather.specs.Sources.{cell_in, ended_sight, held_by}
use Rattle.ckpt_content.specs.Checkpoints.{records_at}
use Rattle.ckpt_content.specs.Finished.{tables_then}
use Rattle.ckpt_step.specs.declared.ground.Ground.{Ground}
use Rattle.ckpt_step.specs.Floors.{Respects, is_before}

-- ---- the moment

-- a version of each key of each table, if it has one
abbrev pub Cells : Type 0
Cells = ℕ → List ℕ → Option (Version Change)

-- what an engine has: of a key whose leaf is in a frame the newest version of a transaction that has ended, of any other the row of its leaf's block
abbrev pub cells_of : Engine → World → Cells
cells_of e w table key = option_and_then (λ (l : Leaf). cell_in (ended_sight e) (w.shelf l.id) (held_by e l) key) (leaf_under table key e.hub.dir.leaves)

-- the world, what its machine runs, and what the engine has
pub record Moment : Type 0 where
  pub world : World
  pub checkpoint : Checkpoint
  pub cells : Cells

abbrev pub moment_of : Engine → World → Checkpoint → Moment
moment_of e w c = record { world = w; checkpoint = c; cells = cells_of e w }

-- ---- what serves

-- A version that stands, at or above each one that the checkpoint sees, and no newer than what the engine has.
pub record Serves (n : Moment) (table : ℕ) (key : List ℕ) (row : Option (Version Change)) : Type 0 where
  pub there : (v : Version Change) → row ≡ Some v → Member v (line n.world.machine.history table key)
  pub top : (v : Version Change) → Member v (line n.world.machine.history table key) → is_in n.world.machine.history n.checkpoint.prefix v ≡ true → (y : Version Change) × (row ≡ Some y) × UpTo Older v y
  pub below : (v w : Version Change) → row ≡ Some v → n.cells table key ≡ Some w → UpTo Older v w

-- so the rows serve for each key that lies in this leaf of the table
abbrev pub AreServedIn : Moment → List Leaf → ℕ → Leaf → List Row → Type 0
AreServedIn n leaves table l rows = (key : List ℕ) → leaf_under table key leaves ≡ Some l → Serves n table key (shown_at key rows)

-- for each key of the table
pub record RowsServe (n : Moment) (t : Table) (rows : List Row) : Type 0 where
  pub fit : AreFit rows
  pub serve : (key : List ℕ) → Serves n t.number key (shown_at key rows)

-- and so do those of each table's tree
abbrev pub TreesServe : Moment → List Table → List TableTree → Type 0
TreesServe n [] [] = Unit {0}
TreesServe n [] (tree ∷ trees) = ⊥
TreesServe n (t ∷ tables) [] = ⊥
TreesServe n (t ∷ tables) (tree ∷ trees) = RowsServe n t (join tree.leaves) × TreesServe n tables trees

-- Of each key of the tables that stood as the checkpoint started the records have, with what the engine has, all that a read can want from the recorded oldest stamp on; and they are of no other table.
pub record IsHistoryThen (n : Moment) (records : List HistoryRecord) : Type 0 where
  pub taken : (t : Table) → Member t (tables_then n.world.machine n.checkpoint) → (key : List ℕ) → CapturedIn n.world.machine n.checkpoint t.number key (n.cells t.number key) (Held (records_at t.number key records))
  pub known : (r : HistoryRecord) → Member r records → has_table (tables_then n.world.machine n.checkpoint) r.table ≡ true

-- ---- under way

-- each version whose name is before the floor is one that the checkpoint sees
abbrev pub CapturesBefore : Machine → Checkpoint → Name → Type 0
CapturesBefore m c floor = (table : ℕ) (key : List ℕ) (v : Version Change) → Member v (line m.history table key) → is_before floor v.window.name ≡ true → is_in m.history c.prefix v ≡ true

-- what the engine has serves: it stands, at or above each version that the checkpoint sees
abbrev pub CellsServe : Moment → Type 0
CellsServe n = (t : Table) → Member t (tables_then n.world.machine n.checkpoint) → (key : List ℕ) → Serves n t.number key (n.cells t.number key)

-- It is that of the engine, whose transactions that have ended this snapshot sees, over a last checkpoint of this floor.
pub record IsMoment (e : Engine) (s : Sight) (floor : Name) (n : Moment) : Type 0 where
  pub stands : Stands e n.world
  pub runs : n.world.machine.checkpoint ≡ Some n.checkpoint
  pub sight : s ≡ ended_sight e
  pub cells : n.cells ≡ cells_of e n.world
  pub serve : CellsServe n
  pub before : CapturesBefore n.world.machine n.checkpoint floor

-- no transaction that has not ended has a name that this snapshot sees, a prepared one without writes neither
abbrev pub SeesNone : Machine → Sight → Type 0
SeesNone m s = (session : ℕ) → MatchOption (transaction_of m session) (Unit {0}) (λ t. (t.id ≡ 0) ⊎ (is_seen s (name_of m t) ≡ false))

-- the name with which its snapshot begins: each before it had ended as it started
abbrev pub floor_at : Sight → Name
floor_at s = record { run = s.run; id = s.min }

-- The checkpoint runs over the last completed one of this ground, with which it may be followed.
pub record IsUnderWay (m : Machine) (c : Checkpoint) (running : RunningCheckpoint) (g : Ground) : Type 0 where
  pub runs : m.checkpoint ≡ Some c
  pub is : IsRunning m c running
  pub number : g.number < 2 ^ 62 - 1
  pub respects : Respects m (floor_at running.snapshot.sight)
  pub unseen : SeesNone m running.snapshot.sight
  pub above : (x : Name) → is_before g.floor x ≡ true → is_before (floor_at running.snapshot.sight) x ≡ true

-- The moment is that of the engine, whose machine runs this checkpoint over a last one of this floor.
pub record IsFinishing (e : Engine) (running : RunningCheckpoint) (floor : Name) (n : Moment) : Type 0 where
  pub stands : Stands e n.world
  pub runs : n.world.machine.checkpoint ≡ Some n.checkpoint
  pub is : IsRunning n.world.machine n.checkpoint running
  pub cells : n.cells ≡ cells_of e n.world
  pub before : CapturesBefore n.world.machine n.checkpoint floor
