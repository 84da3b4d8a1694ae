-- On what the next checkpoint stands.
use Rattle.std.specs.Prelude.{◌≡◌, ◌≢◌, ℕ, ◌+◌, ◌*◌, ◌<◌, ◌≤◌, true, false, List, [], ◌∷◌, length, map, Option, Some, None, slice_get}
use Rattle.std.specs.List.{Contains}
use Rattle.device_layout.specs.declared.addr.Addr.{Addr}
use Rattle.extent_list.specs.Space.{end_of}
use Rattle.block_mgr.specs.declared.cell.Cell.{Cell}
use Rattle.block_mgr.specs.declared.found.Found.{Found}
use Rattle.block_mgr.specs.Cells.{AreUnits, cell_at, nothing}
use Rattle.block_mgr.specs.Open.{found_cell}
use Rattle.kv_model.specs.History.{Table}
use Rattle.kv_model.specs.Holds.{Member}
use Rattle.stored.specs.Blocks.{Block}
use Rattle.stored.specs.Stored.{Stored, history_blocks}
use Rattle.stored.specs.TableTree.{TableTree}
use Rattle.call_steps.specs.declared.hub.Hub.{Hub}
use Rattle.tree_dir.specs.declared.leaf.Leaf.{Leaf}
use Rattle.tree_dir.specs.Leaves.{Directory, leaves_of}
use Rattle.checkpoint_core.specs.Stands.{Stands, body_blocks, chosen_of}
use Rattle.tree_open.specs.declared.place.TreePlace.{TreePlace}
use Rattle.device_leaf.specs.Damage.{record_found}
use Rattle.recover_open.specs.Damage.{found_there}
use Rattle.tree_write.specs.Captures.{AreDistinct, places_of}
use Rattle.tree_write.specs.Steps.{links_in}
use Rattle.tree_write.specs.Writes.{LeadApart}
use Rattle.ckpt_step.specs.declared.ground.Ground.{Ground}
use Rattle.ckpt_step.specs.declared.lives.Lone.{Lone}
use Rattle.ckpt_step.specs.Lives.{addrs_in, is_live, with_lives}
use Rattle.ckpt_step.specs.Parts.{IsParted, part_in, parts_of}
use Rattle.ckpt_step.specs.Rooms.{Written, known_in}
use Rattle.ckpt_step.specs.Trees.{HasTreeAt}

-- the number of a checkpoint, 0 where there is none
abbrev pub number_of : Option Stored → ℕ
number_of None = 0
number_of (Some s) = s.kept.sequence

-- the blocks that an opening finds: that of the record, those of the trees, by table, and those of the history
abbrev pub found_in : Option Stored → List Found
found_in None = []
found_in (Some s) = record_found s.slot ∷ map {A = Block} (λ b. found_there b.place) (body_blocks s)

-- where the blocks of its history stand
abbrev pub history_places : Option Stored → List Addr
history_places None = []
history_places (Some s) = places_of (history_blocks s.kept s.history)

-- the cell at a unit as the next checkpoint begins, with the blocks of the leaves that were written since
abbrev pub start_cell : Option Stored → List Lone → ℕ → Cell
start_cell old lives u = with_lives u (found_cell (found_in old) u) lives

-- ---- leaves that were written since

-- its block has whole units, where the checkpoint has no block
pub record IsLone (old : Option Stored) (x : Lone) : Type 0 where
  pub unit : ℕ
  pub units : ℕ
  pub offset : x.addr.offset ≡ 8192 + 4096 * unit
  pub size : x.addr.size ≡ 4096 * units
  pub none : found_cell (found_in old) unit ≡ nothing

-- so has each, and no two begin at one place
pub record AreLone (old : Option Stored) (lives : List Lone) : Type 0 where
  pub each : (x : Lone) → Member x lives → IsLone old x
  pub distinct : AreDistinct (addrs_in lives)

-- a leaf of the directory that is one of them: its entry leads to its block, and no checkpoint of this engine wrote it
pub record IsSince (lives : List Lone) (written : Written) (l : Leaf) : Type 0 where
  pub there : Member (record { leaf = l.id; addr = l.entry.link.addr }) lives
  pub none : written l.id ≡ None

-- Each is of an id that was given. apart: the parts of a table that has one of them lead apart.
pub record AreSince (old : Option Stored) (lives : List Lone) (dir : Directory) (written : Written) : Type 0 where
  pub lone : AreLone old lives
  pub given : (x : Lone) → Member x lives → x.leaf < dir.next
  pub leaf : (l : Leaf) → Contains dir.leaves l → is_live lives l ≡ true → IsSince lives written l
  pub apart : (l : Leaf) → Contains dir.leaves l → is_live lives l ≡ true → LeadApart (links_in (parts_of written (leaves_of l.table dir.leaves)))

-- It is the block of a leaf of one of these tables, whose entry leads there.
pub record IsLedTo (known : List Table) (leaves : List Leaf) (x : Lone) : Type 0 where
  pub leaf : Leaf
  pub there : Contains leaves leaf
  pub id : leaf.id ≡ x.leaf
  pub addr : leaf.entry.link.addr ≡ x.addr
  pub place : ℕ
  pub table : Table
  pub at : slice_get known place ≡ Some table
  pub own : leaf.table ≡ table.number

-- so is each: none is of a leaf that is gone
abbrev pub AreLedTo : List Table → List Lone → List Leaf → Type 0
AreLedTo known lives leaves = (x : Lone) → Member x lives → IsLedTo known leaves x

-- ---- the ground

-- The checkpoint has the first of these tables, as many as there are places, each with its tree there, which has the parts of the table's leaves.
pub record HasRoots (known : List Table) (lives : List Lone) (leaves : List Leaf) (written : Written) (places : List TreePlace) (s : Stored) : Type 0 where
  pub few : length places ≤ length known
  pub count : length s.kept.tables ≡ length places
  pub trees : (i : ℕ) (t : Table) (place : TreePlace) → slice_get known i ≡ Some t → slice_get places i ≡ Some place → (tree : TableTree) × HasTreeAt (Some s) t place tree × IsParted lives leaves t.number written place tree

abbrev pub AreRoots : List Table → List Lone → List Leaf → Written → List TreePlace → Option Stored → Type 0
AreRoots known lives leaves written places None = places ≡ []
AreRoots known lives leaves written places (Some s) = HasRoots known lives leaves written places s

-- Nothing is written of a leaf whose id comes later, nor of the leaves of tables without a place, which are all in frames but those that were written since.
pub record AreWritten (known : List Table) (lives : List Lone) (dir : Directory) (written : Written) (places : List TreePlace) : Type 0 where
  pub later : (id : ℕ) → dir.next ≤ id → written id ≡ None
  pub made_since : (i : ℕ) (t : Table) (l : Leaf) → slice_get known i ≡ Some t → slice_get places i ≡ None → Contains dir.leaves l → l.table ≡ t.number → is_live lives l ≡ false → (part_in written l ≡ None) × (l.frame ≢ None)

-- The device has this checkpoint, or none, and the ground is that of it: its number, its slot, its blocks in use and those of the leaves that were written since, by place the trees of the engine's tables that it has, and by leaf the parts of these trees.
pub record StandsOn (seen : List ℕ) (images : List ℕ → Type 0) (hub : Hub) (g : Ground) (old : Option Stored) : Type 0 where
  pub stands : Stands seen images g.place.blocks old
  pub number : g.number ≡ number_of old
  pub slot : g.place.slot ≡ chosen_of old
  pub cells : (u : ℕ) → cell_at g.place.blocks.cells u ≡ start_cell old g.lives u
  pub units : AreUnits g.place.blocks.cells g.place.blocks.space
  pub idle : g.place.blocks.is_held ≡ false
  pub long : 8192 ≤ length seen
  pub within : end_of g.place.blocks.space ≤ length seen
  pub roots : AreRoots hub.tables.tables g.lives hub.dir.leaves (known_in g.parts) g.trees.items old
  pub history : g.history.items ≡ history_places old
  pub written : AreWritten hub.tables.tables g.lives hub.dir (known_in g.parts) g.trees.items
  pub since : AreSince old g.lives hub.dir (known_in g.parts)
  pub led : AreLedTo hub.tables.tables g.lives hub.dir.leaves
