-- The blocks that a checkpoint writes, and the room that they need.
use Rattle.std.specs.Prelude.{◌≡◌, ◌⊎◌, ℕ, ◌≤◌, ◌<◌, List, [], ◌∷◌, ◌++◌, length, max, reverse, Option, None, Some, slice_get}
use Rattle.std.specs.List.{AllByRecursion, Contains}
use Rattle.extent_list.specs.Space.{Space, IsFree, Taken, HasNoRoom, end_of as space_end}
use Rattle.le_codec.specs.Images.{block_size}
use Rattle.kv_model.specs.History.{Table, tables}
use Rattle.row_page.specs.Rows.{Row}
use Rattle.stored.specs.Blocks.{Block}
use Rattle.stored.specs.Records.{Root, Record, TableRoot, record_image}
use Rattle.stored.specs.Stored.{Stored}
use Rattle.stored.specs.HistoryTree.{HistoryRecord, HistoryTree}
use Rattle.stored.specs.TableTree.{TableTree}
use Rattle.checkpoint_core.specs.Stands.{HasStill, blocks_of}
use Rattle.checkpoint_core.specs.Room.{InBlocks, end_of}
use Rattle.tree_dir.specs.declared.leaf.Leaf.{Leaf}
use Rattle.tree_dir.specs.Leaves.{leaves_of}
use Rattle.tree_open.specs.declared.place.TreePlace.{TreePlace}
use Rattle.tree_write.specs.Drafts.{IsCutBy}
use Rattle.tree_write.specs.Steps.{links_in}
use Rattle.tree_write.specs.Cuts.{AreFullLeaves}
use Rattle.tree_write.specs.Sizes.{PlacesAll, LacksAll, WritesLeaves, WritesTree}
use Rattle.stored.specs.Tree.{join}
use Rattle.tree_write.specs.Writes.{KeepSame}
use Rattle.hist_write.specs.Cuts.{IsCut, captured_blocks, sizes_of}
use Rattle.ckpt_content.specs.Finished.{IsRecordThen, tables_then}
use Rattle.ckpt_step.specs.Grounds.{number_of}
use Rattle.ckpt_step.specs.Lives.{lone_blocks}
use Rattle.ckpt_step.specs.Moments.{AreServedIn, IsHistoryThen, Moment, RowsServe}
use Rattle.ckpt_step.specs.Parts.{ArePartedBy, links_over, part_leaves, part_of}
use Rattle.ckpt_step.specs.Rooms.{Written}
use Rattle.ckpt_step.specs.declared.lives.Lone.{Lone}
use Rattle.ckpt_step.specs.Trees.{HasTreeAt, IsPair}

-- By leaf of the directory, an image that the checkpoint before has at the same place in the leaf, with the same rows, stands where it did. places, written: where the trees of the new checkpoint stand, and their parts.
abbrev pub KeepsLeaves : List ℕ → List Table → List Leaf → Written → Stored → List TreePlace → Written → Type 0
KeepsLeaves bytes known leaves before new places written =
    (i : ℕ) (t : Table) (place : TreePlace) (tree : TableTree) (l : Leaf) → slice_get known i ≡ Some t → slice_get places i ≡ Some place → HasTreeAt (Some new) t place tree → Contains leaves l → l.table ≡ t.number
    → KeepSame bytes (links_in (part_of before l)) (links_in (part_of written l)) (part_leaves place tree (part_of written l))

-- the checkpoint has a tree of the table with these rows
abbrev pub HasRowsOf : Option Stored → Table → List Row → Type 0
HasRowsOf None t rows = ⊥
HasRowsOf (Some s) t rows = (r : TableRoot) × (tree : TableTree) × IsPair r tree s.kept.tables s.trees × (r.table ≡ t) × (join tree.leaves ≡ rows)

-- by leaf of a table, the images serve the checkpoint as the rows of the keys that lie in the leaf
abbrev pub AreServedOf : Moment → List Leaf → ℕ → List Leaf → List (List (List Row)) → Type 0
AreServedOf n all table [] [] = Unit {0}
AreServedOf n all table [] (images ∷ parts) = ⊥
AreServedOf n all table (l ∷ front) [] = ⊥
AreServedOf n all table (l ∷ front) (images ∷ parts) = AreServedIn n all table l (join images) × AreServedOf n all table front parts

-- The images of these leaves of a table, its first ones, have no room: not all of those that the checkpoint before does not have at the same place in the leaf, with the same rows.
pub record LacksFront (bytes : List ℕ) (capacity : ℕ) (leaves : List Leaf) (written : Written) (n : Moment) (table : ℕ) (space : Space) (front : List Leaf) : Type 0 where
  pub rest : List Leaf
  pub first : leaves_of table leaves ≡ front ++ rest
  pub parts : List (List (List Row))
  pub parted : ArePartedBy leaves table front parts
  pub serve : AreServedOf n leaves table front parts
  pub full : AllByRecursion AreFullLeaves parts
  pub some : AllByRecursion (λ (rows : List Row). 1 ≤ length rows) (join parts)
  pub sizes : List ℕ
  pub writes : WritesLeaves bytes (links_over written front parts) (join parts) sizes
  pub lacks : LacksAll space capacity sizes

-- What a checkpoint that is finished at this moment writes on a device of this content and capacity, over this last one. leaves, written: the leaves of the directory, and what the last one has of them.
module _ (bytes : List ℕ) (capacity : ℕ) (old : Option Stored) (leaves : List Leaf) (written : Written) (n : Moment) where
  -- A table's rows are parted by its leaves, the rows of each leaf are cut into images, and these and the inner pages are written: but no image that the checkpoint before has at the same place in the leaf, with the same rows.
  pub record CutWrites (t : Table) (rows : List Row) (sizes : List ℕ) : Type 0 where
    pub root : Root
    pub tree : TableTree
    pub parts : List (List (List Row))
    pub parted : ArePartedBy leaves t.number (leaves_of t.number leaves) parts
    pub cut : IsCutBy parts root rows tree
    pub writes : WritesTree bytes (links_over written (leaves_of t.number leaves) parts) tree sizes

  -- the tree of a table: as it is written, or that of the checkpoint before, where that has the same rows
  pub record TableWrites (t : Table) (sizes : List ℕ) : Type 0 where
    pub rows : List Row
    pub are : RowsServe n t rows
    pub writes : ((sizes ≡ []) × HasRowsOf old t rows) ⊎ CutWrites t rows sizes

  -- the trees of these tables have places, one after the other
  abbrev pub PlacesTables : Space → List Table → Space → Type 0
  PlacesTables space [] last = last ≡ space
  PlacesTables space (t ∷ tables) last = (sizes : List ℕ) × (next : Space) × TableWrites t sizes × PlacesAll space capacity sizes next × PlacesTables next tables last

  -- one of them has none: not even the first leaves of its table, or not all of it
  abbrev pub LacksTables : Space → List Table → Type 0
  LacksTables space [] = ⊥
  LacksTables space (t ∷ tables) = ((front : List Leaf) × LacksFront bytes capacity leaves written n t.number space front) ⊎ ((sizes : List ℕ) × TableWrites t sizes × (LacksAll space capacity sizes ⊎ ((next : Space) × PlacesAll space capacity sizes next × LacksTables next tables)))

  -- the history has the older versions that a read can want, cut into full pages: what its blocks have, in turn
  pub record HistoryWrites (sizes : List ℕ) : Type 0 where
    pub records : List HistoryRecord
    pub are : IsHistoryThen n records
    pub root : Root
    pub tree : HistoryTree
    pub cut : IsCut root records tree
    pub sizes_are : sizes ≡ sizes_of (captured_blocks root tree)

  -- the trees and then the history have places
  abbrev pub PlacesBody : Space → List Table → Space → Type 0
  PlacesBody space known last = (mid : Space) × (sizes : List ℕ) × PlacesTables space known mid × HistoryWrites sizes × PlacesAll mid capacity sizes last

  -- one of the trees has none, or the history behind them
  abbrev pub LacksBody : Space → List Table → Type 0
  LacksBody space known = LacksTables space known ⊎ ((mid : Space) × (sizes : List ℕ) × PlacesTables space known mid × HistoryWrites sizes × LacksAll mid capacity sizes)

  -- the block of the record
  abbrev pub IsRecordSize : ℕ → Type 0
  IsRecordSize size = (r : Record) × IsRecordThen n.world.machine n.checkpoint (number_of old) r × (size ≡ block_size (length (record_image r)))

  -- one of the trees has no place, or the history, or the record behind them
  abbrev pub LacksPlace : Space → List Table → Type 0
  LacksPlace space known = LacksBody space known ⊎ ((last : Space) × (size : ℕ) × PlacesBody space known last × IsRecordSize size × HasNoRoom last size capacity)

  -- each has one
  abbrev pub HasPlaces : Space → List Table → Type 0
  HasPlaces space known = (last : Space) × (size : ℕ) × (after : Space) × (at : ℕ) × PlacesBody space known last × IsRecordSize size × Taken last after size capacity at

-- What is free beside the blocks, up to an end within the device: behind it a block may only be put.
pub record IsFreeSpace (bytes : List ℕ) (blocks : List Block) (space : Space) : Type 0 where
  pub end_is : end_of blocks ≤ space_end space
  pub within : space_end space ≤ max 8192 (length bytes)
  pub free : (b : ℕ) → IsFree space b → (8192 ≤ b) × (b < space_end space) × (InBlocks blocks b → ⊥)
  pub rest : (b : ℕ) → 8192 ≤ b → b < space_end space → (InBlocks blocks b → ⊥) → IsFree space b

-- The device has no room for the checkpoint of an engine with these leaves, of which some were written since the last one. The trees are written in the order in which their tables were made, each from its leaves up, then the history, and then the record.
pub record IsFullFor (bytes : List ℕ) (capacity : ℕ) (lives : List Lone) (leaves : List Leaf) (written : Written) (n : Moment) : Type 0 where
  pub old : Option Stored
  pub has : HasStill old bytes
  pub space : Space
  pub space_is : IsFreeSpace bytes (blocks_of old ++ lone_blocks lives) space
  pub none : LacksPlace bytes capacity old leaves written n space (reverse (tables_then n.world.machine n.checkpoint))

-- it had room
pub record HasRoomFor (bytes : List ℕ) (capacity : ℕ) (lives : List Lone) (leaves : List Leaf) (written : Written) (n : Moment) : Type 0 where
  pub old : Option Stored
  pub has : HasStill old bytes
  pub space : Space
  pub space_is : IsFreeSpace bytes (blocks_of old ++ lone_blocks lives) space
  pub some : HasPlaces bytes capacity old leaves written n space (reverse (tables_then n.world.machine n.checkpoint))
