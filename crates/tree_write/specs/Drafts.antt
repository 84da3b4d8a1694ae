-- A tree that is captured part by part.
use Rattle.std.specs.Prelude.{◌≡◌, ◌⊎◌, ℕ, ◌≤◌, not, IsTrue, List, [], ◌∷◌, length, map, Option, Result, Ok, Err}
use Rattle.std.specs.List.{AllByRecursion}
use Rattle.disk_model.specs.Crash.{LeavesOnly}
use Rattle.disk_model.specs.declared.disk.Disk.{Ghosts}
use Rattle.extent_list.specs.Space.{end_of}
use Rattle.block_mgr.specs.Blocks.{Books}
use Rattle.device_layout.specs.declared.addr.Addr.{Addr}
use Rattle.device_layout.specs.declared.link.Link.{Link}
use Rattle.wt_code.specs.declared.store_error.StoreError.{StoreError}
use Rattle.wt_code.specs.declared.store_error.StoreError.TheVariants.{NoSpace}
use Rattle.row_page.specs.Rows.{Row, is_below}
use Rattle.reconcile.specs.declared.image.Image.{Image}
use Rattle.stored.specs.Blocks.{Block}
use Rattle.stored.specs.Links.{nowhere}
use Rattle.stored.specs.Records.{Root}
use Rattle.stored.specs.Stored.{Stored}
use Rattle.stored.specs.Tree.{IsTree, join}
use Rattle.stored.specs.TableTree.{Entry, Stay, TableTree, root_entry, table_kind}
use Rattle.checkpoint_core.specs.Finishes.{IsOld}
use Rattle.device_leaf.specs.Leaves.{LeafIs}
use Rattle.device_leaf.specs.NoHistory.{no_root}
use Rattle.tree_open.specs.declared.place.TreePlace.{TreePlace}
use Rattle.tree_open.specs.Trees.{HasTree, IsPlaceOf}
use Rattle.tree_write.specs.Captures.{AreDistinct, Captures, IsSafe, places_of}
use Rattle.tree_write.specs.Cuts.{AreFullLeaves, AreFullPages, IsNeeded, captured_blocks}
use Rattle.tree_write.specs.Sizes.{LacksAll, WritesTree, first_link, links_behind}
use Rattle.tree_write.specs.Steps.{AreSpelled, LeavesStopped, LeavesWritten, links_in}
use Rattle.tree_write.specs.Writes.{AreOwn, IsLiveLeaf, KeepSame, LeadApart, MayWriteOver}

-- ---- parts

-- each of these entries has a key below this one
abbrev pub AreBelow : List ℕ → List Entry → Type 0
AreBelow key es = AllByRecursion (λ (e : Entry). IsTrue (is_below e.key key)) es

-- no row has a key below this one
abbrev pub AreFrom : List ℕ → List Row → Type 0
AreFrom key rows = AllByRecursion (λ (r : Row). IsTrue (not (is_below r.0 key))) rows

-- The leaves that images spell: they have the rows, each as many as it has room for, and one at least.
pub record LeavesOf (images : List Image) (rows : List Row) : Type 0 where
  pub leaves : List (List Row)
  pub spelled : AreSpelled images leaves
  pub whole : join leaves ≡ rows
  pub full : AreFullLeaves leaves
  pub some : AllByRecursion (λ (l : List Row). 1 ≤ length l) leaves

-- by place, the link of before of each of these leaves: one that was not there leads nowhere
abbrev pub aligned : List Link → List (List Row) → List Link
aligned was [] = []
aligned was (rows ∷ leaves) = first_link was ∷ aligned (links_behind was) leaves

-- each link that leads somewhere leads to what the live tree had at first
abbrev pub AreLiveLeaves : Books → List Link → Type 0
AreLiveLeaves first was = AllByRecursion (λ (link : Link). IsLiveLeaf first link) was

-- the addresses that entries lead to
abbrev pub addrs_to : List Entry → List Addr
addrs_to es = map {A = Entry} (λ e. e.link.addr) es

-- the device has the leaves of these entries, each somewhere
abbrev pub HasLeaves : List ℕ → List Entry → List (List Row) → Type 0
HasLeaves bytes [] [] = Unit {0}
HasLeaves bytes [] (rows ∷ leaves) = ⊥
HasLeaves bytes (e ∷ es) [] = ⊥
HasLeaves bytes (e ∷ es) (rows ∷ leaves) = ((e.link.addr.offset ≡ 0 → ⊥) × LeafIs bytes e.link rows) × HasLeaves bytes es leaves

-- the entries as those of a whole tree: a root has no key of its own, so the first has the empty key
abbrev pub rooted : List Entry → List Entry
rooted [] = []
rooted (e ∷ es) = record { key = []; link = e.link } ∷ es

-- the links of the leaves of a tree of these entries: a tree without leaves has one that leads nowhere
abbrev pub leaf_links : List Entry → List Link
leaf_links [] = nowhere ∷ []
leaf_links (e ∷ es) = links_in (e ∷ es)

-- the leaves of parts stand below entries: each part is cut by itself, and each leaf has a row
pub record StandBelow (es : List Entry) (parts : List (List (List Row))) : Type 0 where
  pub stay : Stay es (join parts)
  pub full : AllByRecursion AreFullLeaves parts
  pub some : AllByRecursion (λ (l : List Row). 1 ≤ length l) (join parts)

-- ---- what a draft has captured

-- old: the checkpoint before; first: the books when that was all; books, before: of the moment at which the draft began
module _ {D : Type 0} (g : Ghosts D) (old : Option Stored) (first : Books) (books books' : Books) (before after : D) where
  -- The leaves of these entries are captured since then, over those of the checkpoint before by place.
  pub record Drafted (was : List Link) (leaves : List (List Row)) (addrs : List Addr) (es : List Entry) : Type 0 where
    pub may : MayWriteOver (g.seen before) (g.may_leave before) first books old was
    pub ready : end_of books.space ≤ length (g.seen before)
    pub room : g.capacity after ≡ g.capacity before
    pub placed : length was ≡ length leaves
    pub written : LeavesWritten g old first books books' before after was leaves addrs es

  -- or some of them, and then there is an error
  abbrev pub DraftWrites : List Link → List (List Row) → List Addr → List Entry → Result (Unit {0}) StoreError → Type 0
  DraftWrites was leaves addrs es (Ok done) = Drafted was leaves addrs es
  DraftWrites was leaves addrs es (Err e) = LeavesStopped g old first books books' before after was leaves addrs e

-- ---- the tree of parts

-- a tree without rows has one empty leaf
abbrev pub or_empty : List (List Row) → List (List Row)
or_empty [] = [] ∷ []
or_empty (rows ∷ leaves) = rows ∷ leaves

-- The tree of these parts: each leaf but the last of its part, and each page but the last of its layer, has as many as it has room for, and the tree is no higher than it must be. The tree of no rows stands nowhere.
pub record IsCutBy (parts : List (List (List Row))) (root : Root) (rows : List Row) (t : TableTree) : Type 0 where
  pub tree : IsTree table_kind root.level (root_entry root.link) t
  pub whole : join t.leaves ≡ rows
  pub parted : t.leaves ≡ or_empty (join parts)
  pub full_leaves : AllByRecursion AreFullLeaves parts
  pub full_layers : AllByRecursion AreFullPages t.layers
  pub needed : IsNeeded t.layers
  pub some : (rows ≡ []) ⊎ AllByRecursion (λ (l : List Row). 1 ≤ length l) t.leaves
  pub nowhere : rows ≡ [] → root ≡ no_root

-- as the records of `Writes` of a tree that is cut in one part
module _ {D : Type 0} (g : Ghosts D) (old : Option Stored) (first : Books) (was : List Link) (parts : List (List (List Row))) (rows : List Row) (captured : List Addr) (books books' : Books) (before after : D) where
  -- the tree of the parts is on the device, and captured
  pub record PartsWritten (place : TreePlace) : Type 0 where
    pub tree : TableTree
    pub sizes : List ℕ
    pub cut : IsCutBy parts place.root rows tree
    pub has : HasTree (g.seen after) place.root tree
    pub is : IsPlaceOf place tree
    pub captures : Captures g old first (captured_blocks place.root tree) sizes books books' before after
    pub listed : captured ≡ places_of (captured_blocks place.root tree)
    pub writes : WritesTree (g.seen before) was tree sizes
    pub own : AreOwn books was place.leaves.items
    pub same : KeepSame (g.seen before) was place.leaves.items tree.leaves
    pub distinct : LeadApart was → AreDistinct captured

  -- the device has no room for all of it
  pub record HasNoParts : Type 0 where
    pub root : Root
    pub tree : TableTree
    pub sizes : List ℕ
    pub cut : IsCutBy parts root rows tree
    pub writes : WritesTree (g.seen before) was tree sizes
    pub lacks : LacksAll books.space (g.capacity before) sizes

  -- some of its blocks are captured
  pub record PartsStopped (e : StoreError) : Type 0 where
    pub blocks : List Block
    pub sizes : List ℕ
    pub listed : captured ≡ places_of blocks
    pub captures : IsSafe e → Captures g old first blocks sizes books books' before after
    pub left : LeavesOnly g before after (IsOld (g.may_leave before) old)
    pub lacks : e ≡ NoSpace → HasNoParts

  abbrev pub PartsWrite : Result TreePlace StoreError → Type 0
  PartsWrite (Ok place) = PartsWritten place
  PartsWrite (Err e) = PartsStopped e
