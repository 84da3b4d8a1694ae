-- What the writing of a history leaves.
use Rattle.std.specs.Prelude.{◌≡◌, ℕ, List, Option, None, Result, Ok, Err}
use Rattle.std.specs.List.{AllByRecursion}
use Rattle.disk_model.specs.Crash.{LeavesOnly}
use Rattle.disk_model.specs.declared.disk.Disk.{Ghosts}
use Rattle.block_mgr.specs.Blocks.{Books}
use Rattle.device_layout.specs.declared.addr.Addr.{Addr}
use Rattle.wt_code.specs.declared.store_error.StoreError.{StoreError}
use Rattle.wt_code.specs.declared.store_error.StoreError.TheVariants.{NoSpace}
use Rattle.stored.specs.Blocks.{Block}
use Rattle.stored.specs.Records.{Root}
use Rattle.stored.specs.Stored.{Stored}
use Rattle.stored.specs.Tree.{tree_blocks}
use Rattle.stored.specs.HistoryTree.{HistoryRecord, HistoryTree, NamesOnce, RecordsAscend, history_kind, history_root_entry}
use Rattle.checkpoint_core.specs.Finishes.{IsOld}
use Rattle.hist_pages.specs.declared.leaf.HistoryLeaf.{HistoryLeaf}
use Rattle.hist_pages.specs.Leaves.{AreLeaves}
use Rattle.hist_open.specs.Trees.{HasHistory}
use Rattle.tree_write.specs.Captures.{Captures, IsPlaced, IsSafe, places_of}
use Rattle.tree_write.specs.Sizes.{LacksAll}
use Rattle.hist_write.specs.declared.writing.HistoryPlace.{HistoryPlace}
use Rattle.hist_write.specs.Cuts.{IsCut, captured_blocks, sizes_of}

-- the leaves have these records, which ascend, and of which none is of a version of another
pub record AreWritable (leaves : List HistoryLeaf) (records : List HistoryRecord) : Type 0 where
  pub cut : AreLeaves leaves records
  pub ascend : RecordsAscend None records
  pub once : NamesOnce records

-- captured: the addresses of what is captured, in turn
module _ {D : Type 0} (g : Ghosts D) (old : Option Stored) (first : Books) (records : List HistoryRecord) (captured : List Addr) (books books' : Books) (before after : D) where
  -- the history is on the device, and captured: each of its blocks is new
  pub record HistoryWritten (place : HistoryPlace) : Type 0 where
    pub tree : HistoryTree
    pub cut : IsCut place.root records tree
    pub has : HasHistory (g.seen after) place.root tree
    pub stand : place.addrs.items ≡ places_of (tree_blocks history_kind (history_root_entry place.root.link) tree)
    pub placed : AllByRecursion (λ (b : Block). IsPlaced books b.place) (captured_blocks place.root tree)
    pub captures : Captures g old first (captured_blocks place.root tree) (sizes_of (captured_blocks place.root tree)) books books' before after
    pub listed : captured ≡ places_of (captured_blocks place.root tree)

  -- the device has no room for all of the history
  pub record HasNoPlace : Type 0 where
    pub root : Root
    pub tree : HistoryTree
    pub cut : IsCut root records tree
    pub lacks : LacksAll books.space (g.capacity before) (sizes_of (captured_blocks root tree))

  -- some of its blocks are captured
  pub record HistoryStopped (e : StoreError) : Type 0 where
    pub blocks : List Block
    pub sizes : List ℕ
    pub listed : captured ≡ places_of blocks
    pub captures : IsSafe e → Captures g old first blocks sizes books books' before after
    pub left : LeavesOnly g before after (IsOld (g.may_leave before) old)
    pub lacks : e ≡ NoSpace → HasNoPlace

  abbrev pub HistoryWrites : Result HistoryPlace StoreError → Type 0
  HistoryWrites (Ok place) = HistoryWritten place
  HistoryWrites (Err e) = HistoryStopped e
