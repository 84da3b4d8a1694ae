-- What the writing of a tree leaves.
use Rattle.std.specs.Prelude.{◌≡◌, ◌≢◌, ◌⊎◌, ℕ, List, [], ◌∷◌, Option, Result, Ok, Err}
use Rattle.std.specs.List.{AllByRecursion}
use Rattle.disk_model.specs.Crash.{LeavesOnly}
use Rattle.disk_model.specs.declared.disk.Disk.{Ghosts}
use Rattle.block_mgr.specs.Blocks.{Books, HasLive}
use Rattle.device_layout.specs.declared.addr.Addr.{Addr}
use Rattle.device_layout.specs.declared.link.Link.{Link}
use Rattle.wt_code.specs.declared.store_error.StoreError.{StoreError}
use Rattle.wt_code.specs.declared.store_error.StoreError.TheVariants.{NoSpace}
use Rattle.row_page.specs.Rows.{Row}
use Rattle.stored.specs.Blocks.{Block}
use Rattle.stored.specs.Links.{nowhere}
use Rattle.stored.specs.Records.{Root}
use Rattle.stored.specs.Stored.{Stored}
use Rattle.stored.specs.TableTree.{TableTree}
use Rattle.checkpoint_core.specs.Finishes.{IsOld}
use Rattle.device_leaf.specs.Leaves.{LeafIs}
use Rattle.device_leaf.specs.NoHistory.{no_root}
use Rattle.tree_open.specs.declared.place.TreePlace.{TreePlace}
use Rattle.tree_open.specs.Trees.{HasTree, IsPlaceOf}
use Rattle.tree_write.specs.Captures.{Captures, IsPlaced, IsSafe, MayWrite, StaysLive, AreDistinct, places_of}
use Rattle.tree_write.specs.Cuts.{IsCut, captured_blocks}
use Rattle.tree_write.specs.Sizes.{LacksAll, WritesTree, first_link, links_behind}

-- ---- the leaves of before

-- a leaf that stands somewhere is in the live tree since the first
abbrev pub IsLiveLeaf : Books → Link → Type 0
IsLiveLeaf first link = (link.addr.offset ≡ 0) ⊎ HasLive first.cells link.addr.offset link.addr.size

-- A tree may be written over these leaves of the checkpoint before. first: the books when that was all.
pub record MayWriteOver (seen : List ℕ) (images : List ℕ → Type 0) (first books : Books) (old : Option Stored) (was : List Link) : Type 0 where
  pub may : MayWrite seen images books old
  pub live : StaysLive first books
  pub leaves : AllByRecursion (λ (link : Link). IsLiveLeaf first link) was

-- no two of the links that lead somewhere lead to one place
abbrev pub LeadApart : List Link → Type 0
LeadApart [] = Unit {0}
LeadApart (link ∷ links) = ((link.addr.offset ≡ 0) ⊎ AllByRecursion (λ (x : Link). x.addr.offset ≡ link.addr.offset → ⊥) links) × LeadApart links

-- by place, a leaf stands where that of before did, or is new, or stands nowhere
abbrev pub AreOwn : Books → List Link → List Link → Type 0
AreOwn books was [] = Unit {0}
AreOwn books was (link ∷ links) = ((link ≡ nowhere) ⊎ ((link ≡ first_link was) ⊎ IsPlaced books link.addr)) × AreOwn books (links_behind was) links

-- by place, a leaf that the checkpoint before has with the same rows stands where it did
abbrev pub KeepSame : List ℕ → List Link → List Link → List (List Row) → Type 0
KeepSame bytes was [] leaves = Unit {0}
KeepSame bytes was (link ∷ links) [] = Unit {0}
KeepSame bytes was (link ∷ links) (rows ∷ leaves) = (rows ≢ [] → LeafIs bytes (first_link was) rows → link ≡ first_link was) × KeepSame bytes (links_behind was) links leaves

-- the tree of no rows stands nowhere
pub record IsNoPlace (p : TreePlace) : Type 0 where
  pub root : p.root ≡ no_root
  pub leaves : p.leaves.items ≡ nowhere ∷ []
  pub addrs : p.addrs.items ≡ []

-- ---- what is left

-- was: the leaves of the checkpoint before, by place; captured: the addresses of what is captured, in turn
module _ {D : Type 0} (g : Ghosts D) (old : Option Stored) (first : Books) (was : List Link) (rows : List Row) (captured : List Addr) (books books' : Books) (before after : D) where
  -- the tree is on the device, and captured
  pub record TreeWritten (place : TreePlace) : Type 0 where
    pub tree : TableTree
    pub sizes : List ℕ
    pub cut : IsCut place.root rows tree
    pub has : HasTree (g.seen after) place.root tree
    pub is : IsPlaceOf place tree
    pub captures : Captures g old first (captured_blocks place.root tree) sizes books books' before after
    pub listed : captured ≡ places_of (captured_blocks place.root tree)
    pub writes : WritesTree (g.seen before) was tree sizes
    pub own : AreOwn books was place.leaves.items
    pub same : KeepSame (g.seen before) was place.leaves.items tree.leaves
    pub distinct : LeadApart was → AreDistinct captured

  -- the device has no room for all of the tree
  pub record HasNoPlace : Type 0 where
    pub root : Root
    pub tree : TableTree
    pub sizes : List ℕ
    pub cut : IsCut root rows tree
    pub writes : WritesTree (g.seen before) was tree sizes
    pub lacks : LacksAll books.space (g.capacity before) sizes

  -- some of its blocks are captured
  pub record TreeStopped (e : StoreError) : Type 0 where
    pub blocks : List Block
    pub sizes : List ℕ
    pub listed : captured ≡ places_of blocks
    pub captures : IsSafe e → Captures g old first blocks sizes books books' before after
    pub left : LeavesOnly g before after (IsOld (g.may_leave before) old)
    pub lacks : e ≡ NoSpace → HasNoPlace

  abbrev pub TreeWrites : Result TreePlace StoreError → Type 0
  TreeWrites (Ok place) = TreeWritten place
  TreeWrites (Err e) = TreeStopped e
