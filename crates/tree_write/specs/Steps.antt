-- What the steps of the writing of a tree leave.
use Rattle.std.specs.Prelude.{◌≡◌, ◌⊎◌, ℕ, zero, suc, ◌<◌, List, [], ◌∷◌, ◌++◌, length, map, Option, Result, Ok, Err, Vec}
use Rattle.std.specs.Option.{option_to_list}
use Rattle.std.specs.List.{AllByRecursion}
use Rattle.std.specs.declared.alloc.Global.{Global}
use Rattle.disk_model.specs.Crash.{LeavesOnly}
use Rattle.disk_model.specs.declared.disk.Disk.{Ghosts}
use Rattle.extent_list.specs.Space.{HasNoRoom}
use Rattle.le_codec.specs.Images.{block_size}
use Rattle.block_mgr.specs.Blocks.{Books}
use Rattle.device_layout.specs.declared.addr.Addr.{Addr}
use Rattle.device_layout.specs.declared.link.Link.{Link}
use Rattle.wt_code.specs.declared.store_error.StoreError.{StoreError}
use Rattle.wt_code.specs.declared.store_error.StoreError.TheVariants.{NoSpace}
use Rattle.row_page.specs.Rows.{Row, image}
use Rattle.row_page.specs.Greatest.{durables_of, names_of}
use Rattle.leaf_rows.specs.Rows.{image_length}
use Rattle.stored.specs.Blocks.{Block}
use Rattle.stored.specs.Links.{SaysOf, nowhere}
use Rattle.stored.specs.Records.{Root}
use Rattle.stored.specs.Stored.{Stored}
use Rattle.stored.specs.Tree.{AllBear, AllLead, Layer, Lead, bottom, inner_blocks, join, leaf_blocks, page_blocks}
use Rattle.stored.specs.TableTree.{AreEntries, Entry, Leads, table_kind}
use Rattle.checkpoint_core.specs.Finishes.{IsOld}
use Rattle.device_leaf.specs.Leaves.{LeafIs}
use Rattle.reconcile.specs.declared.image.Image.{Image}
use Rattle.reconcile.specs.Images.{SpellsRows}
use Rattle.tree_dir.specs.declared.draft.PageDraft.{PageDraft}
use Rattle.tree_dir.specs.Levels.{SpellsPage}
use Rattle.tree_open.specs.declared.place.TreePlace.{TreePlace}
use Rattle.tree_open.specs.Pages.{page_block}
use Rattle.tree_open.specs.Trees.{root_own}
use Rattle.tree_write.specs.Captures.{Captures, IsPlaced, IsSafe, places_of}
use Rattle.tree_write.specs.Cuts.{AreFullPages, IsNeeded, risen_blocks}
use Rattle.tree_write.specs.Sizes.{LacksAll, WritesLeaf, WritesLeaves, page_count, page_sizes}
use Rattle.tree_write.specs.Writes.{AreOwn, KeepSame}

-- ---- images and drafts, by place

-- the images spell these leaves
abbrev pub AreSpelled : List Image → List (List Row) → Type 0
AreSpelled [] [] = Unit {0}
AreSpelled [] (rows ∷ leaves) = ⊥
AreSpelled (i ∷ images) [] = ⊥
AreSpelled (i ∷ images) (rows ∷ leaves) = SpellsRows i rows × AreSpelled images leaves

-- the drafts spell these pages
abbrev pub AreDrafts : ℕ → List PageDraft → Layer Entry → Type 0
AreDrafts level [] [] = Unit {0}
AreDrafts level [] (es ∷ pages) = ⊥
AreDrafts level (p ∷ drafts) [] = ⊥
AreDrafts level (p ∷ drafts) (es ∷ pages) = SpellsPage level p es × AreDrafts level drafts pages

-- the keys of entries
abbrev pub keys_of : List Entry → List (List ℕ)
keys_of es = map {A = Entry} (λ e. e.key) es

abbrev pub lows_of : List PageDraft → List (List ℕ)
lows_of drafts = map {A = PageDraft} (λ p. p.low) drafts

-- the keys of the entries of a part: the first has the part's low key, and each other one the least key of its image
abbrev pub image_keys : List Image → List (List ℕ)
image_keys images = map {A = Image} (λ i. i.low) images

abbrev pub part_keys : List ℕ → List Image → List (List ℕ)
part_keys low [] = []
part_keys low (i ∷ images) = low ∷ image_keys images

-- the key of the entry of the image at a place of the part
abbrev pub key_at : List ℕ → ℕ → Image → List ℕ
key_at low zero i = low
key_at low (suc place) i = i.low

-- the link of the first entry
abbrev pub top_link : List Entry → Link
top_link [] = nowhere
top_link (e ∷ es) = e.link

-- the block of a leaf
abbrev pub leaf_block : Link → List Row → Block
leaf_block link rows = record { place = link.addr; image = image rows }

-- the pages have the entries, each but the last as many as it has room for
pub record IsCutInto (level : ℕ) (es : List Entry) (pages : Layer Entry) : Type 0 where
  pub whole : join pages ≡ es
  pub full : AreFullPages pages
  pub admitted : AllByRecursion (λ (p : List Entry). AreEntries level p) pages

-- ---- one block

module _ {D : Type 0} (g : Ghosts D) (old : Option Stored) (first : Books) (books books' : Books) (before after : D) where
  -- nothing is captured; known: what is read afterwards is known
  pub record Fails (known : Type 0) : Type 0 where
    pub same : books' ≡ books
    pub left : LeavesOnly g before after (IsOld (g.may_leave before) old)
    pub seen : known → g.seen after ≡ g.seen before
    pub images : known → (c : List ℕ) → g.may_leave after c → g.may_leave before c

  -- a block of this image is written and captured
  abbrev pub BlockWrites : List ℕ → Result Addr StoreError → Type 0
  BlockWrites image (Ok a) = IsPlaced books a × Captures g old first (record { place = a; image = image } ∷ []) (block_size (length image) ∷ []) books books' before after
  BlockWrites image (Err e) = Fails (IsSafe e) × (e ≡ NoSpace → HasNoRoom books.space (block_size (length image)) (g.capacity before))

  -- an inner page is
  abbrev pub PageWrites : ℕ → List Entry → List Addr → Result Entry StoreError → Type 0
  PageWrites level es addrs (Ok e) = (addrs ≡ e.link.addr ∷ []) × Leads level e es × IsPlaced books e.link.addr × Captures g old first (page_block level e es ∷ []) (4096 ∷ []) books books' before after
  PageWrites level es addrs (Err e) = (addrs ≡ []) × Fails (IsSafe e) × (e ≡ NoSpace → HasNoRoom books.space 4096 (g.capacity before))

  -- a leaf is, or stands where that of before did
  pub record LeafWritten (was : Link) (rows : List Row) (addrs : List Addr) (link : Link) : Type 0 where
    pub size : Option ℕ
    pub says : SaysOf link (names_of rows) (durables_of rows)
    pub listed : addrs ≡ link.addr ∷ []
    pub captures : Captures g old first (leaf_block link rows ∷ []) (option_to_list size) books books' before after
    pub writes : WritesLeaf (g.seen before) was rows size
    pub own : (link ≡ was) ⊎ IsPlaced books link.addr
    pub same : LeafIs (g.seen before) was rows → link ≡ was

  abbrev pub LeafWrites : Link → List Row → List Addr → Result Link StoreError → Type 0
  LeafWrites was rows addrs (Ok link) = LeafWritten was rows addrs link
  LeafWrites was rows addrs (Err e) = (addrs ≡ []) × Fails (IsSafe e) × (e ≡ NoSpace → (LeafIs (g.seen before) was rows → ⊥) × HasNoRoom books.space (block_size (image_length rows)) (g.capacity before))

-- ---- the leaves

abbrev pub links_in : List Entry → List Link
links_in es = map {A = Entry} (λ e. e.link) es

module _ {D : Type 0} (g : Ghosts D) (old : Option Stored) (first : Books) (books books' : Books) (before after : D) (was : List Link) (leaves : List (List Row)) (addrs : List Addr) where
  -- all are captured, and these entries lead to them
  pub record LeavesWritten (es : List Entry) : Type 0 where
    pub sizes : List ℕ
    pub bear : AllBear table_kind es leaves
    pub stored : AllByRecursion (λ (e : Entry). e.link.addr.offset ≡ 0 → ⊥) es
    pub captures : Captures g old first (leaf_blocks table_kind es leaves) sizes books books' before after
    pub listed : addrs ≡ places_of (leaf_blocks table_kind es leaves)
    pub writes : WritesLeaves (g.seen before) was leaves sizes
    pub own : AreOwn books was (links_in es)
    pub same : KeepSame (g.seen before) was (links_in es) leaves

  -- some are captured, and then there is an error
  pub record LeavesStopped (e : StoreError) : Type 0 where
    pub blocks : List Block
    pub sizes : List ℕ
    pub listed : addrs ≡ places_of blocks
    pub captures : IsSafe e → Captures g old first blocks sizes books books' before after
    pub left : LeavesOnly g before after (IsOld (g.may_leave before) old)
    pub lacks : e ≡ NoSpace → (all : List ℕ) × WritesLeaves (g.seen before) was leaves all × LacksAll books.space (g.capacity before) all

  abbrev pub LeavesWrite : Result (Vec Entry Global) StoreError → Type 0
  LeavesWrite (Ok es) = LeavesWritten es.items
  LeavesWrite (Err e) = LeavesStopped e

-- ---- the pages of a level

module _ {D : Type 0} (g : Ghosts D) (old : Option Stored) (first : Books) (books books' : Books) (before after : D) where
  -- the first of these pages are captured, and these entries lead to them
  pub record PagesWritten (level : ℕ) (pages : Layer Entry) (own : List Entry) (addrs : List Addr) : Type 0 where
    pub lead : Lead table_kind level own pages
    pub placed : AllByRecursion (λ (b : Block). IsPlaced books b.place) (page_blocks table_kind level own pages)
    pub captures : Captures g old first (page_blocks table_kind level own pages) (page_sizes (length pages)) books books' before after
    pub listed : addrs ≡ places_of (page_blocks table_kind level own pages)

  -- some are captured, and then there is an error
  pub record PagesStopped (level : ℕ) (pages : Layer Entry) (addrs : List Addr) (e : StoreError) : Type 0 where
    pub blocks : List Block
    pub count : ℕ
    pub listed : addrs ≡ places_of blocks
    pub captures : IsSafe e → Captures g old first blocks (page_sizes count) books books' before after
    pub left : LeavesOnly g before after (IsOld (g.may_leave before) old)
    pub lacks : e ≡ NoSpace → (count < length pages) × HasNoRoom books'.space 4096 (g.capacity before)

  abbrev pub PagesWrite : ℕ → Layer Entry → List Addr → Result (Vec Entry Global) StoreError → Type 0
  PagesWrite level pages addrs (Ok own) = PagesWritten level pages own.items addrs
  PagesWrite level pages addrs (Err e) = PagesStopped level pages addrs e

  -- the pages that these entries are cut into are captured, or some of them
  pub record LevelWrites (level : ℕ) (es : List Entry) (addrs : List Addr) (r : Result (Vec Entry Global) StoreError) : Type 0 where
    pub pages : Layer Entry
    pub cut : IsCutInto level es pages
    pub writes : PagesWrite level pages addrs r

-- ---- the levels above leaves

-- the layers stand between these entries and those of the leaves, each page but the last of its layer full
pub record IsRisen (own : List Entry) (layers : List (Layer Entry)) (leaves : List Entry) : Type 0 where
  pub lead : AllLead table_kind own layers
  pub bottom : bottom own layers ≡ leaves
  pub full : AllByRecursion AreFullPages layers
  pub needed : IsNeeded layers

-- a root and layers over the entries of leaves
pub record IsTop (root : Root) (layers : List (Layer Entry)) (leaves : List Entry) : Type 0 where
  pub levels : length layers ≡ root.level
  pub risen : IsRisen (root_own root) layers leaves

module _ {D : Type 0} (g : Ghosts D) (old : Option Stored) (first : Books) (books books' : Books) (before after : D) where
  -- the inner pages above the leaves are captured
  pub record Rose (es : List Entry) (addrs : List Addr) (place : TreePlace) : Type 0 where
    pub layers : List (Layer Entry)
    pub top : IsTop place.root layers es
    pub links : place.leaves.items ≡ map {A = Entry} (λ e. e.link) es
    pub stand : place.addrs.items ≡ places_of (inner_blocks table_kind (root_own place.root) layers) ++ map {A = Entry} (λ e. e.link.addr) es
    pub placed : AllByRecursion (λ (b : Block). IsPlaced books b.place) (risen_blocks (root_own place.root) layers)
    pub captures : Captures g old first (risen_blocks (root_own place.root) layers) (page_sizes (page_count layers)) books books' before after
    pub listed : addrs ≡ places_of (risen_blocks (root_own place.root) layers)

  -- there is no room for all of them
  pub record HasNoTop (es : List Entry) : Type 0 where
    pub root : Root
    pub layers : List (Layer Entry)
    pub top : IsTop root layers es
    pub lacks : LacksAll books.space (g.capacity before) (page_sizes (page_count layers))

  -- some are captured, and then there is an error
  pub record RiseStopped (es : List Entry) (addrs : List Addr) (e : StoreError) : Type 0 where
    pub blocks : List Block
    pub sizes : List ℕ
    pub listed : addrs ≡ places_of blocks
    pub captures : IsSafe e → Captures g old first blocks sizes books books' before after
    pub left : LeavesOnly g before after (IsOld (g.may_leave before) old)
    pub lacks : e ≡ NoSpace → HasNoTop es

  abbrev pub Rises : List Entry → List Addr → Result TreePlace StoreError → Type 0
  Rises es addrs (Ok place) = Rose es addrs place
  Rises es addrs (Err e) = RiseStopped es addrs e
