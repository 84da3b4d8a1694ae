-- What the steps of the writing of a history leave.
use Rattle.std.specs.Prelude.{◌≡◌, ℕ, ◌<◌, List, [], ◌∷◌, ◌++◌, length, map, Option, Result, Ok, Err, Vec}
use Rattle.std.specs.List.{AllByRecursion}
use Rattle.std.specs.declared.alloc.Global.{Global}
use Rattle.disk_model.specs.Crash.{LeavesOnly}
use Rattle.disk_model.specs.declared.disk.Disk.{Ghosts}
use Rattle.extent_list.specs.Space.{HasNoRoom}
use Rattle.le_codec.specs.Images.{block_size}
use Rattle.block_mgr.specs.Blocks.{Books}
use Rattle.device_layout.specs.declared.addr.Addr.{Addr}
use Rattle.device_layout.specs.declared.link.Link.{Link}
use Rattle.wt_code.specs.declared.store_error.StoreError.{StoreError}
use Rattle.wt_code.specs.declared.store_error.StoreError.TheVariants.{NoSpace}
use Rattle.stored.specs.Blocks.{Block}
use Rattle.stored.specs.Links.{nowhere}
use Rattle.stored.specs.Stored.{Stored}
use Rattle.stored.specs.Tree.{AllBear, AllLead, Layer, Lead, bottom, inner_blocks, join, leaf_blocks, page_blocks}
use Rattle.stored.specs.HistoryTree.{AreHistoryEntries, HistoryBears, HistoryEntry, HistoryLeads, HistoryRecord, Mark, history_image, history_kind}
use Rattle.checkpoint_core.specs.Finishes.{IsOld}
use Rattle.hist_pages.specs.declared.leaf.HistoryLeaf.{HistoryLeaf}
use Rattle.hist_pages.specs.declared.page.HistoryPage.{HistoryPage}
use Rattle.hist_pages.specs.Leaves.{SpellsRecords}
use Rattle.hist_pages.specs.Levels.{SpellsPage}
use Rattle.hist_open.specs.Pages.{page_block}
use Rattle.tree_write.specs.Captures.{Captures, IsPlaced, IsSafe, places_of}
use Rattle.tree_write.specs.Sizes.{LacksAll, page_sizes}
use Rattle.tree_write.specs.Steps.{Fails}
use Rattle.hist_write.specs.declared.writing.HistoryPlace.{HistoryPlace}
use Rattle.hist_write.specs.Cuts.{AreFullPages, IsNeeded, page_count, risen_blocks}

-- ---- leaves and pages, by place

-- the leaves spell these records
abbrev pub AreSpelled : List HistoryLeaf → List (List HistoryRecord) → Type 0
AreSpelled [] [] = Unit {0}
AreSpelled [] (records ∷ leaves) = ⊥
AreSpelled (l ∷ drafts) [] = ⊥
AreSpelled (l ∷ drafts) (records ∷ leaves) = SpellsRecords l records × AreSpelled drafts leaves

-- the drafts spell these pages
abbrev pub AreDrafts : ℕ → List HistoryPage → Layer HistoryEntry → Type 0
AreDrafts level [] [] = Unit {0}
AreDrafts level [] (es ∷ pages) = ⊥
AreDrafts level (p ∷ drafts) [] = ⊥
AreDrafts level (p ∷ drafts) (es ∷ pages) = SpellsPage level p es × AreDrafts level drafts pages

-- what orders entries, pages and leaves
abbrev pub marks_of : List HistoryEntry → List Mark
marks_of es = map {A = HistoryEntry} (λ e. e.least) es

abbrev pub lows_of : List HistoryPage → List Mark
lows_of drafts = map {A = HistoryPage} (λ p. p.least) drafts

abbrev pub leasts_of : List HistoryLeaf → List Mark
leasts_of leaves = map {A = HistoryLeaf} (λ l. l.least) leaves

-- the link of the first entry
abbrev pub top_link : List HistoryEntry → Link
top_link [] = nowhere
top_link (e ∷ es) = e.link

-- the block of a leaf
abbrev pub leaf_block : Addr → List HistoryRecord → Block
leaf_block a records = record { place = a; image = history_image records }

-- the pages have the entries, each but the last as many as it has room for
pub record IsCutInto (level : ℕ) (es : List HistoryEntry) (pages : Layer HistoryEntry) : Type 0 where
  pub whole : join pages ≡ es
  pub full : AreFullPages pages
  pub admitted : AllByRecursion (λ (p : List HistoryEntry). AreHistoryEntries level p) pages

-- ---- one block

-- the bytes of a leaf's block
abbrev pub leaf_size : List HistoryRecord → ℕ
leaf_size records = block_size (length (history_image records))

abbrev pub leaf_sizes : List (List HistoryRecord) → List ℕ
leaf_sizes leaves = map leaf_size leaves

module _ {D : Type 0} (g : Ghosts D) (old : Option Stored) (first : Books) (books books' : Books) (before after : D) where
  -- an inner page is written and captured
  abbrev pub PageWrites : ℕ → List HistoryEntry → List Addr → Result HistoryEntry StoreError → Type 0
  PageWrites level es addrs (Ok e) = (addrs ≡ e.link.addr ∷ []) × HistoryLeads level e es × IsPlaced books e.link.addr × Captures g old first (page_block level e es ∷ []) (4096 ∷ []) books books' before after
  PageWrites level es addrs (Err e) = (addrs ≡ []) × Fails g old first books books' before after (IsSafe e) × (e ≡ NoSpace → HasNoRoom books.space 4096 (g.capacity before))

  -- a leaf is
  abbrev pub LeafWrites : List HistoryRecord → List Addr → Result HistoryEntry StoreError → Type 0
  LeafWrites records addrs (Ok e) = (addrs ≡ e.link.addr ∷ []) × HistoryBears e records × (e.link.addr.offset ≡ 0 → ⊥) × IsPlaced books e.link.addr × Captures g old first (leaf_block e.link.addr records ∷ []) (leaf_size records ∷ []) books books' before after
  LeafWrites records addrs (Err e) = (addrs ≡ []) × Fails g old first books books' before after (IsSafe e) × (e ≡ NoSpace → HasNoRoom books.space (leaf_size records) (g.capacity before))

-- ---- the leaves

module _ {D : Type 0} (g : Ghosts D) (old : Option Stored) (first : Books) (books books' : Books) (before after : D) where
  -- all are captured, and these entries lead to them
  pub record LeavesWritten (leaves : List (List HistoryRecord)) (es : List HistoryEntry) (addrs : List Addr) : Type 0 where
    pub bear : AllBear history_kind es leaves
    pub stored : AllByRecursion (λ (e : HistoryEntry). e.link.addr.offset ≡ 0 → ⊥) es
    pub placed : AllByRecursion (λ (b : Block). IsPlaced books b.place) (leaf_blocks history_kind es leaves)
    pub captures : Captures g old first (leaf_blocks history_kind es leaves) (leaf_sizes leaves) books books' before after
    pub listed : addrs ≡ places_of (leaf_blocks history_kind es leaves)

  -- some are captured, and then there is an error
  pub record LeavesStopped (leaves : List (List HistoryRecord)) (addrs : List Addr) (e : StoreError) : Type 0 where
    pub blocks : List Block
    pub sizes : List ℕ
    pub listed : addrs ≡ places_of blocks
    pub captures : IsSafe e → Captures g old first blocks sizes books books' before after
    pub left : LeavesOnly g before after (IsOld (g.may_leave before) old)
    pub lacks : e ≡ NoSpace → LacksAll books.space (g.capacity before) (leaf_sizes leaves)

  abbrev pub LeavesWrite : List (List HistoryRecord) → List Addr → Result (Vec HistoryEntry Global) StoreError → Type 0
  LeavesWrite leaves addrs (Ok es) = LeavesWritten leaves es.items addrs
  LeavesWrite leaves addrs (Err e) = LeavesStopped leaves addrs e

-- ---- the pages of a level

module _ {D : Type 0} (g : Ghosts D) (old : Option Stored) (first : Books) (books books' : Books) (before after : D) where
  -- these pages are captured, and these entries lead to them
  pub record PagesWritten (level : ℕ) (pages : Layer HistoryEntry) (own : List HistoryEntry) (addrs : List Addr) : Type 0 where
    pub lead : Lead history_kind level own pages
    pub placed : AllByRecursion (λ (b : Block). IsPlaced books b.place) (page_blocks history_kind level own pages)
    pub captures : Captures g old first (page_blocks history_kind level own pages) (page_sizes (length pages)) books books' before after
    pub listed : addrs ≡ places_of (page_blocks history_kind level own pages)

  -- some are captured, and then there is an error
  pub record PagesStopped (level : ℕ) (pages : Layer HistoryEntry) (addrs : List Addr) (e : StoreError) : Type 0 where
    pub blocks : List Block
    pub count : ℕ
    pub listed : addrs ≡ places_of blocks
    pub captures : IsSafe e → Captures g old first blocks (page_sizes count) books books' before after
    pub left : LeavesOnly g before after (IsOld (g.may_leave before) old)
    pub lacks : e ≡ NoSpace → (count < length pages) × HasNoRoom books'.space 4096 (g.capacity before)

  abbrev pub PagesWrite : ℕ → Layer HistoryEntry → List Addr → Result (Vec HistoryEntry Global) StoreError → Type 0
  PagesWrite level pages addrs (Ok own) = PagesWritten level pages own.items addrs
  PagesWrite level pages addrs (Err e) = PagesStopped level pages addrs e

  -- the pages that these entries are cut into are captured, or some of them
  pub record LevelWrites (level : ℕ) (es : List HistoryEntry) (addrs : List Addr) (r : Result (Vec HistoryEntry Global) StoreError) : Type 0 where
    pub pages : Layer HistoryEntry
    pub cut : IsCutInto level es pages
    pub writes : PagesWrite level pages addrs r

-- ---- the levels above leaves

-- the layers stand between these entries and those of the leaves, each page but the last of its layer full
pub record IsRisen (own : List HistoryEntry) (layers : List (Layer HistoryEntry)) (leaves : List HistoryEntry) : Type 0 where
  pub lead : AllLead history_kind own layers
  pub bottom : bottom own layers ≡ leaves
  pub full : AllByRecursion AreFullPages layers
  pub needed : IsNeeded layers

-- one entry, and layers over the entries of leaves
pub record IsTop (top : HistoryEntry) (level : ℕ) (layers : List (Layer HistoryEntry)) (leaves : List HistoryEntry) : Type 0 where
  pub levels : length layers ≡ level
  pub risen : IsRisen (top ∷ []) layers leaves

module _ {D : Type 0} (g : Ghosts D) (old : Option Stored) (first : Books) (books books' : Books) (before after : D) where
  -- the inner pages above the leaves are captured
  pub record Rose (es : List HistoryEntry) (addrs : List Addr) (place : HistoryPlace) : Type 0 where
    pub layers : List (Layer HistoryEntry)
    pub top : HistoryEntry
    pub link : place.root.link ≡ top.link
    pub is : IsTop top place.root.level layers es
    pub stand : place.addrs.items ≡ places_of (inner_blocks history_kind (top ∷ []) layers) ++ map {A = HistoryEntry} (λ e. e.link.addr) es
    pub placed : AllByRecursion (λ (b : Block). IsPlaced books b.place) (risen_blocks (top ∷ []) layers)
    pub captures : Captures g old first (risen_blocks (top ∷ []) layers) (page_sizes (page_count layers)) books books' before after
    pub listed : addrs ≡ places_of (risen_blocks (top ∷ []) layers)

  -- there is no room for all of them
  pub record HasNoTop (es : List HistoryEntry) : Type 0 where
    pub top : HistoryEntry
    pub level : ℕ
    pub layers : List (Layer HistoryEntry)
    pub is : IsTop top level layers es
    pub lacks : LacksAll books.space (g.capacity before) (page_sizes (page_count layers))

  -- some are captured, and then there is an error
  pub record RiseStopped (es : List HistoryEntry) (addrs : List Addr) (e : StoreError) : Type 0 where
    pub blocks : List Block
    pub sizes : List ℕ
    pub listed : addrs ≡ places_of blocks
    pub captures : IsSafe e → Captures g old first blocks sizes books books' before after
    pub left : LeavesOnly g before after (IsOld (g.may_leave before) old)
    pub lacks : e ≡ NoSpace → HasNoTop es

  abbrev pub Rises : List HistoryEntry → List Addr → Result HistoryPlace StoreError → Type 0
  Rises es addrs (Ok place) = Rose es addrs place
  Rises es addrs (Err e) = RiseStopped es addrs e
