-- What the writing of leaves leaves while no checkpoint captures them.
use Rattle.std.specs.Prelude.{◌≡◌, ℕ, List, map, Option, Result, Ok, Err, Vec}
use Rattle.std.specs.declared.alloc.Global.{Global}
use Rattle.disk_model.specs.Crash.{Keeps, LeavesOnly}
use Rattle.disk_model.specs.declared.disk.Disk.{Ghosts}
use Rattle.extent_list.specs.Space.{HasNoRoom, Taken}
use Rattle.le_codec.specs.Images.{block_size}
use Rattle.block_mgr.specs.Blocks.{Books, Has}
use Rattle.block_mgr.specs.Cells.{cell_at}
use Rattle.block_mgr.specs.Writes.{Added}
use Rattle.device_layout.specs.declared.link.Link.{Link}
use Rattle.wt_code.specs.declared.store_error.StoreError.{StoreError}
use Rattle.wt_code.specs.declared.store_error.StoreError.TheVariants.{NoSpace}
use Rattle.row_page.specs.Rows.{Row}
use Rattle.leaf_rows.specs.Rows.{image_length}
use Rattle.stored.specs.Stored.{Stored}
use Rattle.stored.specs.Tree.{AllBear}
use Rattle.stored.specs.TableTree.{Entry, table_kind}
use Rattle.checkpoint_core.specs.Finishes.{IsOld}
use Rattle.device_leaf.specs.Leaves.{LeafIs}
use Rattle.tree_write.specs.Captures.{IsSafe, MayWrite}
use Rattle.tree_write.specs.Drafts.{HasLeaves, addrs_to}
use Rattle.tree_write.specs.Sizes.{LacksAll, PlacesAll}
use Rattle.tree_write.specs.Steps.{Fails}
use Rattle.leaf_write.specs.Adds.{AreAdded}

-- what is read afterwards is known: no write or sync failed
abbrev pub IsKnown : {T : Type 0} → Result T StoreError → Type 0
IsKnown (Ok x) = Unit {0}
IsKnown (Err e) = IsSafe e

-- the size of the block of a leaf
abbrev pub leaf_size : List Row → ℕ
leaf_size rows = block_size (image_length rows)

-- the sizes of the blocks of leaves, in turn
abbrev pub leaf_sizes : List (List Row) → List ℕ
leaf_sizes leaves = map {A = List Row} leaf_size leaves

-- old: the checkpoint before, which stands; books, before: of the moment at which the writing began
module _ {D : Type 0} (g : Ghosts D) (old : Option Stored) (books books' : Books) (before after : D) where
  -- ---- one leaf

  -- the leaf stands where the link leads, in a block that the live tree alone has
  pub record LeafWritten (rows : List Row) (link : Link) : Type 0 where
    pub stored : link.addr.offset ≡ 0 → ⊥
    pub leaf : LeafIs (g.seen after) link rows
    pub added : Added books books' link.addr
    pub may : MayWrite (g.seen after) (g.may_leave after) books' old
    pub left : LeavesOnly g before after (IsOld (g.may_leave before) old)
    pub images : (c : List ℕ) → g.may_leave after c → IsOld (g.may_leave before) old c
    pub keeps : Keeps (Has books.cells) (g.seen before) (g.seen after)
    pub used : (at n : ℕ) → Has books.cells at n → Has books'.cells at n
    pub taken : Taken books.space books'.space (leaf_size rows) (g.capacity before) link.addr.offset

  abbrev pub WritesLeaf : List Row → Result Entry StoreError → Type 0
  WritesLeaf rows (Ok e) = LeafWritten rows e.link
  WritesLeaf rows (Err e) = Fails g old books books books' before after (IsSafe e) × (e ≡ NoSpace → HasNoRoom books.space (leaf_size rows) (g.capacity before))

  -- ---- the leaves of a part

  -- all are on the device, each in a block that the live tree alone has, and these entries lead to them
  pub record LeavesWritten (leaves : List (List Row)) (es : List Entry) : Type 0 where
    pub bear : AllBear table_kind es leaves
    pub has : HasLeaves (g.seen after) es leaves
    pub added : AreAdded books (addrs_to es) books'
    pub may : MayWrite (g.seen after) (g.may_leave after) books' old
    pub left : LeavesOnly g before after (IsOld (g.may_leave before) old)
    pub images : (c : List ℕ) → g.may_leave after c → IsOld (g.may_leave before) old c
    pub keeps : Keeps (Has books.cells) (g.seen before) (g.seen after)
    pub used : (at n : ℕ) → Has books.cells at n → Has books'.cells at n
    pub places : PlacesAll books.space (g.capacity before) (leaf_sizes leaves) books'.space

  -- each block is held as before, whatever the error was
  pub record LeavesGivenBack (leaves : List (List Row)) (e : StoreError) : Type 0 where
    pub cells : (u : ℕ) → cell_at books'.cells u ≡ cell_at books.cells u
    pub left : LeavesOnly g before after (IsOld (g.may_leave before) old)
    pub may : IsSafe e → MayWrite (g.seen after) (g.may_leave after) books' old
    pub images : IsSafe e → (c : List ℕ) → g.may_leave after c → IsOld (g.may_leave before) old c
    pub keeps : IsSafe e → Keeps (Has books.cells) (g.seen before) (g.seen after)
    pub lacks : e ≡ NoSpace → LacksAll books.space (g.capacity before) (leaf_sizes leaves)

  abbrev pub WritesLeaves : List (List Row) → Result (Vec Entry Global) StoreError → Type 0
  WritesLeaves leaves (Ok es) = LeavesWritten leaves es.items
  WritesLeaves leaves (Err e) = LeavesGivenBack leaves e
