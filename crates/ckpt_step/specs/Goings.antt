-- Trees that are captured one after the other.
use Rattle.std.specs.Prelude.{◌≡◌, ◌≢◌, ◌⊎◌, ◌<◌, ℕ, true, false, List, [], ◌∷◌, ◌++◌, drop, length, take, Option, None, Some, Result, Ok, Err, slice_get}
use Rattle.std.specs.List.{Contains}
use Rattle.disk_model.specs.Crash.{Keeps, LeavesOnly}
use Rattle.disk_model.specs.declared.disk.Disk.{Ghosts}
use Rattle.extent_list.specs.Space.{Space}
use Rattle.block_mgr.specs.Blocks.{Books, Has, HasLive}
use Rattle.device_layout.specs.declared.addr.Addr.{Addr}
use Rattle.device_layout.specs.declared.link.Link.{Link}
use Rattle.wt_code.specs.declared.store_error.StoreError.{StoreError}
use Rattle.wt_code.specs.declared.store_error.StoreError.TheVariants.{NoSpace}
use Rattle.kv_model.specs.History.{Table}
use Rattle.kv_model.specs.Holds.{Member}
use Rattle.tree_dir.specs.declared.leaf.Leaf.{Leaf}
use Rattle.tree_dir.specs.Leaves.{leaves_of}
use Rattle.row_page.specs.Rows.{Row}
use Rattle.stored.specs.Blocks.{Apart, Block}
use Rattle.stored.specs.Records.{Root}
use Rattle.stored.specs.Stored.{Stored}
use Rattle.stored.specs.TableTree.{TableTree, root_entry, table_kind}
use Rattle.stored.specs.Tree.{join, tree_blocks}
use Rattle.checkpoint_core.specs.Finishes.{IsOld}
use Rattle.recover_open.specs.Bare.{tree_rows}
use Rattle.tree_open.specs.declared.place.TreePlace.{TreePlace}
use Rattle.tree_open.specs.Trees.{HasTree, IsPlaceOf}
use Rattle.tree_write.specs.Captures.{Captures, IsPlaced, IsSafe, places_of}
use Rattle.tree_write.specs.Sizes.{LacksAll, WritesTree}
use Rattle.tree_write.specs.Drafts.{IsCutBy}
use Rattle.tree_write.specs.Steps.{links_in}
use Rattle.tree_write.specs.Writes.{KeepSame, LeadApart, MayWriteOver}
use Rattle.ckpt_step.specs.Floors.{IsAsItLies}
use Rattle.ckpt_step.specs.Grounds.{IsSince}
use Rattle.ckpt_step.specs.Halves.{ByLeaves, Half, IsNewBlock}
use Rattle.ckpt_step.specs.Lives.{is_live, live_addrs}
use Rattle.ckpt_step.specs.Moments.{Moment, RowsServe, TreesServe}
use Rattle.ckpt_step.specs.Parts.{AreOfLeaves, AreOfTables, ArePartedBy, IsParted, links_over, part_in, part_leaves, part_of, parts_of, with_parts}
use Rattle.ckpt_step.specs.Rooms.{Written}
use Rattle.ckpt_step.specs.declared.lives.Lone.{Lone}
use Rattle.ckpt_step.specs.declared.parts.LeafPart.{LeafPart}
use Rattle.ckpt_step.specs.Sizes.{LacksFront, LacksTables, PlacesTables}
use Rattle.ckpt_step.specs.Trees.{HasTreeAt, leaves_at}

-- a block of the table at a place, as the checkpoint begins: one of its tree in the checkpoint before, or of a leaf of it that was written since
abbrev pub IsOfTable : List TreePlace → List Addr → ℕ → Addr → Type 0
IsOfTable was since i x = ((p : TreePlace) × (slice_get was i ≡ Some p) × Member x p.addrs.items) ⊎ Member x since

-- a block begins where one of the table does
abbrev pub BeginsIn : List TreePlace → List Addr → ℕ → Addr → Type 0
BeginsIn was since i a = (x : Addr) × IsOfTable was since i x × (x.offset ≡ a.offset)

-- A tree may be written or kept over the one at a place of the checkpoint before. first: the books when the checkpoint began; since: where the leaves of the table stand that were written since.
pub record MayGo (seen : List ℕ) (images : List ℕ → Type 0) (first books : Books) (old : Option Stored) (was : List TreePlace) (since : List Addr) (i : ℕ) : Type 0 where
  pub over : MayWriteOver seen images first books old (leaves_at was i)
  pub apart : LeadApart (leaves_at was i)
  pub blocks : (p : TreePlace) (a : Addr) → slice_get was i ≡ Some p → Member a p.addrs.items → HasLive first.cells a.offset a.size
  pub written : (a : Addr) → Member a since → HasLive first.cells a.offset a.size
  pub listed : (p : TreePlace) (link : Link) → slice_get was i ≡ Some p → Member link p.leaves.items → (link.addr.offset ≡ 0 → ⊥) → Member link.addr p.addrs.items

-- What the checkpoint before has at the place of a table that it has: a tree, which has the parts of the table's leaves; each leaf of any other is in a frame, and has no part, but for those that were written since. All parts lead apart.
pub record HasPartsAt (old : Option Stored) (lives : List Lone) (leaves : List Leaf) (had : Written) (was : List TreePlace) (t : Table) (i : ℕ) : Type 0 where
  pub tree : (place : TreePlace) → slice_get was i ≡ Some place → (tree : TableTree) × HasTreeAt old t place tree × IsParted lives leaves t.number had place tree
  pub none : slice_get was i ≡ None → (l : Leaf) → Contains leaves l → l.table ≡ t.number → is_live lives l ≡ false → (part_in had l ≡ None) × (l.frame ≢ None)
  pub since : (l : Leaf) → Contains leaves l → is_live lives l ≡ true → IsSince lives had l
  pub apart : LeadApart (links_in (parts_of had (leaves_of t.number leaves)))

-- the device has no room for all of the tree of these rows of a table, parted by its leaves
pub record LacksTree (bytes : List ℕ) (capacity : ℕ) (space : Space) (leaves : List Leaf) (had : Written) (table : ℕ) (rows : List Row) : Type 0 where
  pub root : Root
  pub tree : TableTree
  pub sizes : List ℕ
  pub parts : List (List (List Row))
  pub parted : ArePartedBy leaves table (leaves_of table leaves) parts
  pub cut : IsCutBy parts root rows tree
  pub writes : WritesTree bytes (links_over had (leaves_of table leaves) parts) tree sizes
  pub lacks : LacksAll space capacity sizes

-- i: the place of the table; was: where the trees of the checkpoint before stand; had: their parts, by leaf; more, more': the leaves that were written before and after
module _ {D : Type 0} (g : Ghosts D) (old : Option Stored) (first : Books) (was : List TreePlace) (lives : List Lone) (leaves : List Leaf) (had : Written) (n : Moment) (t : Table) (i : ℕ) (books books' : Books) (places places' : List TreePlace) (more more' : List LeafPart) (captured captured' : List Addr) (before after : D) where
  -- a block is where none was, or where one of the table's was
  abbrev pub IsOwnBlock : Addr → Type 0
  IsOwnBlock a = IsPlaced books a ⊎ BeginsIn was (live_addrs lives (leaves_of t.number leaves)) i a

  -- the tree of before is captured as it stands
  pub record KeepsTree (place : TreePlace) (tree : TableTree) (sizes : List ℕ) : Type 0 where
    pub none : sizes ≡ []
    pub kept : TreePlace
    pub at : slice_get was i ≡ Some kept
    pub has : HasTreeAt old t kept tree
    pub root : place.root ≡ kept.root

  -- it is cut out of the rows of the table's leaves, and written
  pub record CutsTree (place : TreePlace) (tree : TableTree) (sizes : List ℕ) : Type 0 where
    pub parts : List (List (List Row))
    pub parted : ArePartedBy leaves t.number (leaves_of t.number leaves) parts
    pub cut : IsCutBy parts place.root (tree_rows tree) tree
    pub writes : WritesTree (g.seen before) (links_over had (leaves_of t.number leaves) parts) tree sizes

  -- a leaf of the table, as it is now
  pub record IsLeafNow (written : Written) (place : TreePlace) (tree : TableTree) (l : Leaf) : Type 0 where
    pub same : KeepSame (g.seen before) (links_in (part_of had l)) (links_in (part_of written l)) (part_leaves place tree (part_of written l))
    pub shelved : IsAsItLies written l → join (part_leaves place tree (part_of written l)) ≡ n.world.shelf l.id

  -- the tree of the table is captured, and its place stands behind the others
  pub record OneMore : Type 0 where
    pub place : TreePlace
    pub tree : TableTree
    pub blocks : List Block
    pub sizes : List ℕ
    pub places_are : places' ≡ places ++ place ∷ []
    pub captured_are : captured' ≡ captured ++ places_of blocks
    pub own_more : List LeafPart
    pub more_are : more' ≡ more ++ own_more
    pub of_table : AreOfLeaves (leaves_of t.number leaves) own_more
    pub rows : RowsServe n t (tree_rows tree)
    pub parted : IsParted [] leaves t.number (with_parts had own_more) place tree
    pub each : (l : Leaf) → Contains leaves l → l.table ≡ t.number → IsLeafNow (with_parts had own_more) place tree l
    pub has : HasTree (g.seen after) place.root tree
    pub is : IsPlaceOf place tree
    pub captures : Captures g old first blocks sizes books books' before after
    pub listed : (a : Addr) → (Member a (places_of blocks) → Member a place.addrs.items) × (Member a place.addrs.items → Member a (places_of blocks))
    pub own : (a : Addr) → Member a (places_of blocks) → IsOwnBlock a
    pub apart : Apart (tree_blocks table_kind (root_entry place.root.link) tree)
    pub how : KeepsTree place tree sizes ⊎ CutsTree place tree sizes

  -- some of its blocks are captured, and those before it
  pub record NotOneMore (e : StoreError) : Type 0 where
    pub rows : List Row
    pub blocks : List Block
    pub sizes : List ℕ
    pub captured_are : captured' ≡ captured ++ places_of blocks
    pub captures : IsSafe e → Captures g old first blocks sizes books books' before after
    pub left : LeavesOnly g before after (IsOld (g.may_leave before) old)
    pub lacks : e ≡ NoSpace → ((front : List Leaf) × LacksFront (g.seen before) (g.capacity before) leaves had n t.number books.space front) ⊎ (RowsServe n t rows × LacksTree (g.seen before) (g.capacity before) books.space leaves had t.number rows)

  abbrev pub Goes : Result (Unit {0}) StoreError → Type 0
  Goes (Ok done) = OneMore
  Goes (Err e) = NotOneMore e

-- a block that is captured is new, or it begins where one of an earlier table's does
abbrev pub IsFrom : Option Stored → List TreePlace → List Lone → List Leaf → List Table → ℕ → Addr → Type 0
IsFrom old was lives leaves known count a = IsNewBlock old lives a ⊎ ((j : ℕ) × (t : Table) × (j < count) × (slice_get known j ≡ Some t) × BeginsIn was (live_addrs lives (leaves_of t.number leaves)) j a)

-- The trees of the first tables are captured, as many as count says. had: what the checkpoint before has of the leaves of the directory; more: the leaves that are written now, all of these tables.
pub record Going {D : Type 0} (g : Ghosts D) (old : Option Stored) (was : List TreePlace) (lives : List Lone) (leaves : List Leaf) (had : Written) (n : Moment) (known : List Table) (first books : Books) (places : List TreePlace) (more : List LeafPart) (captured : List Addr) (count : ℕ) (before after : D) : Type 0 where
  pub trees : List TableTree
  pub many : length places ≡ count
  pub half : Half (g.seen after) (g.may_leave after) books old lives captured places trees
  pub from : (a : Addr) → Member a captured → IsFrom old was lives leaves known count a
  pub left : LeavesOnly g before after (IsOld (g.may_leave before) old)
  pub images : (c : List ℕ) → g.may_leave after c → IsOld (g.may_leave before) old c
  pub rows : (rest : List TableTree) → TreesServe n (drop count known) rest → TreesServe n known (trees ++ rest)
  pub placed : (last : Space) → PlacesTables (g.seen before) (g.capacity before) old leaves had n books.space (drop count known) last → PlacesTables (g.seen before) (g.capacity before) old leaves had n first.space known last
  pub lacks : LacksTables (g.seen before) (g.capacity before) old leaves had n books.space (drop count known) → LacksTables (g.seen before) (g.capacity before) old leaves had n first.space known
  pub by_leaves : ByLeaves (g.seen before) known leaves had n.world.shelf places trees (with_parts had more)
  pub of_first : AreOfTables (take count known) leaves more
  pub keeps : Keeps (Has first.cells) (g.seen before) (g.seen after)
  pub used : (at n : ℕ) → Has first.cells at n → Has books.cells at n
  pub live : (at n : ℕ) → HasLive first.cells at n → HasLive books.cells at n
