-- A checkpoint that is half written: the trees of the first tables are captured, or all of them and the history.
use Rattle.std.specs.Prelude.{◌≡◌, ◌⊎◌, ◌+◌, ◌*◌, ◌/◌, ◌≤◌, ◌==◌, ◌++◌, ℕ, Bool, true, false, List, [], length, Option, Some, Result, Ok, Err, slice_get, if◌then◌else◌}
use Rattle.std.specs.List.{Contains, fold}
use Rattle.disk_model.specs.Crash.{Keeps, LeavesOnly}
use Rattle.disk_model.specs.declared.disk.Disk.{Ghosts}
use Rattle.extent_list.specs.Space.{end_of}
use Rattle.block_mgr.specs.declared.cell.Cell.{Cell}
use Rattle.block_mgr.specs.Blocks.{Books, Has}
use Rattle.block_mgr.specs.Cells.{AreUnits, cell_at, done_cell, nothing}
use Rattle.device_layout.specs.declared.addr.Addr.{Addr}
use Rattle.wt_code.specs.declared.store_error.StoreError.{StoreError}
use Rattle.wt_code.specs.declared.store_error.StoreError.TheVariants.{NoSpace}
use Rattle.kv_model.specs.History.{Table}
use Rattle.kv_model.specs.Holds.{Member}
use Rattle.row_page.specs.Rows.{Row}
use Rattle.stored.specs.Blocks.{Apart, Block}
use Rattle.stored.specs.HistoryTree.{HistoryTree, history_kind, history_root_entry}
use Rattle.stored.specs.Records.{Root}
use Rattle.stored.specs.Stored.{Stored}
use Rattle.stored.specs.TableTree.{TableTree}
use Rattle.stored.specs.Tree.{join, tree_blocks}
use Rattle.tree_dir.specs.declared.leaf.Leaf.{Leaf}
use Rattle.checkpoint_core.specs.Stands.{Stands, AreInUse}
use Rattle.checkpoint_core.specs.Finishes.{IsOld}
use Rattle.tree_open.specs.declared.place.TreePlace.{TreePlace}
use Rattle.hist_open.specs.Trees.{HasHistory}
use Rattle.tree_write.specs.Captures.{AreDistinct, IsSafe, places_of, with_addrs}
use Rattle.tree_write.specs.Steps.{links_in}
use Rattle.tree_write.specs.Writes.{KeepSame}
use Rattle.ckpt_step.specs.Floors.{IsAsItLies}
use Rattle.ckpt_step.specs.Grounds.{AreLone, start_cell}
use Rattle.ckpt_step.specs.Sizes.{LacksBody, LacksTables, PlacesBody, PlacesTables}
use Rattle.ckpt_step.specs.Lives.{NoneOfOthers, addrs_in, with_lives}
use Rattle.ckpt_step.specs.Moments.{IsHistoryThen, Moment, TreesServe}
use Rattle.ckpt_step.specs.Parts.{AreOfTables, IsParted, part_leaves, part_of, with_parts}
use Rattle.ckpt_step.specs.Rooms.{Written}
use Rattle.ckpt_step.specs.Trees.{AreTreesAt, addrs_of, trees_blocks}
use Rattle.ckpt_step.specs.declared.lives.Lone.{Lone}
use Rattle.ckpt_step.specs.declared.parts.LeafPart.{LeafPart}

-- ---- the cells of the books

-- the cell at a unit, once the running checkpoint has captured the blocks at these addresses
abbrev pub half_cell : Option Stored → List Lone → List Addr → ℕ → Cell
half_cell old lives captured u = with_addrs u (start_cell old lives u) captured

-- the block of a record, which only the last checkpoint has
abbrev pub record_cell : Addr → Cell
record_cell a = record { units = a.size / 4096; is_live = false; is_running = false; is_last = true; names = 0 }

-- once the record is installed, and the trees of the checkpoint before are still in the live tree
abbrev pub done_at : Option Stored → List Lone → List Addr → Addr → ℕ → Cell
done_at old lives captured a u = if a.offset == 8192 + 4096 * u then record_cell a else done_cell (half_cell old lives captured u)

-- a block of so many units that the live tree has, and the last checkpoint too or not
abbrev pub held_cell : ℕ → Bool → Cell
held_cell n last = record { units = n; is_live = true; is_running = false; is_last = last; names = 0 }

-- one that both have
abbrev pub body_cell : ℕ → Cell
body_cell n = held_cell n true

abbrev pub with_last : ℕ → Cell → Addr → Cell
with_last u c a = if a.offset == 8192 + 4096 * u then body_cell (a.size / 4096) else c

-- and once the live tree has let go of those of before, but of these, which were written since
abbrev pub settled_at : List Addr → List Lone → Addr → ℕ → Cell
settled_at captured others a u = if a.offset == 8192 + 4096 * u then record_cell a else with_lives u (fold (with_last u) nothing captured) others

-- no block of the old checkpoint or written since, and none that is captured, begins where this one does
abbrev pub IsFresh : Option Stored → List Lone → List Addr → Addr → Type 0
IsFresh old lives captured a = (u : ℕ) × (a.offset ≡ 8192 + 4096 * u) × (half_cell old lives captured u ≡ nothing)

-- ---- the blocks that are captured

-- the address leads to where no block was as the checkpoint began
pub record IsNewBlock (old : Option Stored) (lives : List Lone) (a : Addr) : Type 0 where
  pub unit : ℕ
  pub units : ℕ
  pub offset : a.offset ≡ 8192 + 4096 * unit
  pub size : a.size ≡ 4096 * units
  pub none : start_cell old lives unit ≡ nothing

-- it leads to a block of the checkpoint before, which is not that of its record, or to one that was written since
pub record IsOldBlock (old : Option Stored) (lives : List Lone) (a : Addr) : Type 0 where
  pub unit : ℕ
  pub units : ℕ
  pub is_last : Bool
  pub offset : a.offset ≡ 8192 + 4096 * unit
  pub size : a.size ≡ 4096 * units
  pub cell : start_cell old lives unit ≡ held_cell units is_last

abbrev pub AreOwn : Option Stored → List Lone → List Addr → Type 0
AreOwn old lives captured = (a : Addr) → Member a captured → IsOldBlock old lives a ⊎ IsNewBlock old lives a

-- Each of these is one that was written since, whose block is not captured, nor one of the checkpoint before at these addresses.
pub record AreApartFrom (old : Option Stored) (lives : List Lone) (captured before : List Addr) (others : List Lone) : Type 0 where
  pub lone : AreLone old lives
  pub among : (x : Lone) → Member x others → Member x lives
  pub distinct : AreDistinct (addrs_in others)
  pub apart : (x : Lone) (a : Addr) → Member x others → Member a captured → a.offset ≡ x.addr.offset → ⊥
  pub elsewhere : (x : Lone) (a : Addr) → Member x others → Member a before → a.offset ≡ x.addr.offset → ⊥

-- the addresses are those of the checkpoint before but that of its record, and of the leaves that were written since
pub record AreOldBlocks (old : Option Stored) (lives : List Lone) (addrs : List Addr) : Type 0 where
  pub each : (a : Addr) → Member a addrs → IsOldBlock old lives a
  pub all : (u : ℕ) → (start_cell old lives u).is_live ≡ true → (a : Addr) × Member a addrs × (a.offset ≡ 8192 + 4096 * u)

-- the same addresses, in whatever order
abbrev pub AreListed : List Addr → List Addr → Type 0
AreListed captured addrs = (a : Addr) → (Member a captured → Member a addrs) × (Member a addrs → Member a captured)

-- The running checkpoint has these blocks, in the order in which it captured them, and the checkpoint before stands as it did.
pub record Runs (seen : List ℕ) (images : List ℕ → Type 0) (books : Books) (old : Option Stored) (lives : List Lone) (captured : List Addr) : Type 0 where
  pub stands : Stands seen images books old
  pub cells : (u : ℕ) → cell_at books.cells u ≡ half_cell old lives captured u
  pub units : AreUnits books.cells books.space
  pub long : 8192 ≤ length seen
  pub within : end_of books.space ≤ length seen
  pub own : AreOwn old lives captured

-- they are those of these trees, by place of their tables, which are on the device
pub record Half (seen : List ℕ) (images : List ℕ → Type 0) (books : Books) (old : Option Stored) (lives : List Lone) (captured : List Addr) (places : List TreePlace) (trees : List TableTree) : Type 0 where
  pub runs : Runs seen images books old lives captured
  pub held : books.is_held ≡ true
  pub there : AreTreesAt seen places trees
  pub in_use : AreInUse books.cells (trees_blocks places trees)
  pub apart : Apart (trees_blocks places trees)
  pub listed : AreListed captured (addrs_of places)

-- the blocks of a history, and those of trees and of a history
abbrev pub older_blocks : Root → HistoryTree → List Block
older_blocks root history = tree_blocks history_kind (history_root_entry root.link) history

abbrev pub made_blocks : List TreePlace → List TableTree → Root → HistoryTree → List Block
made_blocks places trees root history = trees_blocks places trees ++ older_blocks root history

-- The trees of all tables and the history are on the device, at their places, and nothing else is captured. stand: where the blocks of the history are.
pub record Body (seen : List ℕ) (images : List ℕ → Type 0) (books : Books) (old : Option Stored) (lives : List Lone) (captured : List Addr) (places : List TreePlace) (trees : List TableTree) (root : Root) (history : HistoryTree) (stand : List Addr) : Type 0 where
  pub runs : Runs seen images books old lives captured
  pub held : books.is_held ≡ true
  pub there : AreTreesAt seen places trees
  pub has : HasHistory seen root history
  pub in_use : AreInUse books.cells (made_blocks places trees root history)
  pub apart : Apart (made_blocks places trees root history)
  pub stand_is : stand ≡ places_of (older_blocks root history)
  pub listed : AreListed captured (addrs_of places ++ stand)

-- by table and leaf, an image that the checkpoint before has at the same place in the leaf, with the same rows, stands where it did
abbrev pub TreesKeep : List ℕ → List Table → List Leaf → Written → List TreePlace → List TableTree → Written → Type 0
TreesKeep bytes known leaves before places trees written =
    (i : ℕ) (t : Table) (place : TreePlace) (tree : TableTree) (l : Leaf) → slice_get known i ≡ Some t → slice_get places i ≡ Some place → slice_get trees i ≡ Some tree → Contains leaves l → l.table ≡ t.number
    → KeepSame bytes (links_in (part_of before l)) (links_in (part_of written l)) (part_leaves place tree (part_of written l))

-- by table, its tree is the parts of its leaves
abbrev pub AreParted : List Table → List Leaf → Written → List TreePlace → List TableTree → Type 0
AreParted known leaves written places trees =
    (i : ℕ) (t : Table) (place : TreePlace) (tree : TableTree) → slice_get known i ≡ Some t → slice_get places i ≡ Some place → slice_get trees i ≡ Some tree → IsParted [] leaves t.number written place tree

-- By table and leaf that is in no frame, or was not written, it has the rows of its block.
abbrev pub AreOnShelf : List Table → List Leaf → Written → List TreePlace → List TableTree → (ℕ → List Row) → Type 0
AreOnShelf known leaves written places trees shelf =
    (i : ℕ) (t : Table) (place : TreePlace) (tree : TableTree) (l : Leaf) → slice_get known i ≡ Some t → slice_get places i ≡ Some place → slice_get trees i ≡ Some tree → Contains leaves l → l.table ≡ t.number
    → IsAsItLies written l → join (part_leaves place tree (part_of written l)) ≡ shelf l.id

-- what the trees of these tables are by leaves
pub record ByLeaves (bytes : List ℕ) (known : List Table) (leaves : List Leaf) (before : Written) (shelf : ℕ → List Row) (places : List TreePlace) (trees : List TableTree) (written : Written) : Type 0 where
  pub parted : AreParted known leaves written places trees
  pub same : TreesKeep bytes known leaves before places trees written
  pub shelved : AreOnShelf known leaves written places trees shelf

-- ---- writing them

-- leaves: those of the directory; had: what the checkpoint before has of them; more: the leaves that are written now
module _ {D : Type 0} (g : Ghosts D) (old : Option Stored) (lives : List Lone) (n : Moment) (known : List Table) (leaves : List Leaf) (had : Written) (books books' : Books) (places : List TreePlace) (more : List LeafPart) (captured : List Addr) (before after : D) where
  -- all trees are captured
  pub record AllWritten : Type 0 where
    pub trees : List TableTree
    pub half : Half (g.seen after) (g.may_leave after) books' old lives captured places trees
    pub rows : TreesServe n known trees
    pub left : LeavesOnly g before after (IsOld (g.may_leave before) old)
    pub keeps : Keeps (Has books.cells) (g.seen before) (g.seen after)
    pub used : (at n : ℕ) → Has books.cells at n → Has books'.cells at n
    pub placed : PlacesTables (g.seen before) (g.capacity before) old leaves had n books.space known books'.space
    pub by_leaves : ByLeaves (g.seen before) known leaves had n.world.shelf places trees (with_parts had more)
    pub of_tables : AreOfTables known leaves more
    pub apart : NoneOfOthers known leaves lives captured

  -- some blocks are
  pub record SomeWritten (e : StoreError) : Type 0 where
    pub runs : IsSafe e → Runs (g.seen after) (g.may_leave after) books' old lives captured
    pub left : LeavesOnly g before after (IsOld (g.may_leave before) old)
    pub keeps : IsSafe e → Keeps (Has books.cells) (g.seen before) (g.seen after)
    pub lacks : e ≡ NoSpace → LacksTables (g.seen before) (g.capacity before) old leaves had n books.space known

  abbrev pub Writes : Result (Unit {0}) StoreError → Type 0
  Writes (Ok done) = AllWritten
  Writes (Err e) = SomeWritten e

-- ---- and then the history

module _ {D : Type 0} (g : Ghosts D) (old : Option Stored) (lives : List Lone) (n : Moment) (known : List Table) (leaves : List Leaf) (had : Written) (books books' : Books) (places : List TreePlace) (more : List LeafPart) (captured : List Addr) (before after : D) where
  -- all trees are captured, and the history at this root, whose blocks are there
  pub record AllTaken (root : Root) (stand : List Addr) : Type 0 where
    pub trees : List TableTree
    pub history : HistoryTree
    pub body : Body (g.seen after) (g.may_leave after) books' old lives captured places trees root history stand
    pub rows : TreesServe n known trees
    pub older : IsHistoryThen n (join history.leaves)
    pub left : LeavesOnly g before after (IsOld (g.may_leave before) old)
    pub keeps : Keeps (Has books.cells) (g.seen before) (g.seen after)
    pub used : (at n : ℕ) → Has books.cells at n → Has books'.cells at n
    pub placed : PlacesBody (g.seen before) (g.capacity before) old leaves had n books.space known books'.space
    pub by_leaves : ByLeaves (g.seen before) known leaves had n.world.shelf places trees (with_parts had more)
    pub of_tables : AreOfTables known leaves more
    pub apart : NoneOfOthers known leaves lives captured

  -- some blocks are
  pub record SomeTaken (e : StoreError) : Type 0 where
    pub runs : IsSafe e → Runs (g.seen after) (g.may_leave after) books' old lives captured
    pub left : LeavesOnly g before after (IsOld (g.may_leave before) old)
    pub keeps : IsSafe e → Keeps (Has books.cells) (g.seen before) (g.seen after)
    pub lacks : e ≡ NoSpace → LacksBody (g.seen before) (g.capacity before) old leaves had n books.space known

  abbrev pub TakesAll : Root → List Addr → Result (Unit {0}) StoreError → Type 0
  TakesAll root stand (Ok done) = AllTaken root stand
  TakesAll root stand (Err e) = SomeTaken e
