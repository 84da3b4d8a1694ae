-- The tree of a table on a device, down to the entries of its leaves.
use Rattle.std.specs.Prelude.{◌≡◌, ℕ, ◌-◌, List, [], ◌∷◌, ◌++◌, length, map, None, if◌then◌else◌}
use Rattle.std.specs.List.{AllByRecursion}
use Rattle.device_layout.specs.declared.addr.Addr.{Addr}
use Rattle.stored.specs.Blocks.{Block, IsAddressed, Holds}
use Rattle.stored.specs.Links.{is_nowhere}
use Rattle.stored.specs.Tree.{Layer, join, inner_blocks, bottom, AllLead, IsTree, tree_blocks}
use Rattle.stored.specs.TableTree.{Entry, Climbs, TableTree, table_kind, root_entry}
use Rattle.stored.specs.Records.{Root}
use Rattle.tree_open.specs.declared.place.TreePlace.{TreePlace}
use Rattle.tree_open.specs.Pages.{ArePages}

-- the entry that a root is
abbrev pub root_own : Root → List Entry
root_own root = root_entry root.link ∷ []

-- where blocks stand
abbrev pub places : List Block → List Addr
places blocks = map {A = Block} (λ b. b.place) blocks

-- The device has the inner pages of a tree that the root leads to: these are the entries of its leaves, and the pages stand there.
pub record InnerIs (bytes : List ℕ) (root : Root) (es : List Entry) (addrs : List Addr) : Type 0 where
  pub layers : List (Layer Entry)
  pub levels : length layers ≡ root.level
  pub lead : AllLead table_kind (root_own root) layers
  pub addressed : AllByRecursion (λ (b : Block). IsAddressed b) (inner_blocks table_kind (root_own root) layers)
  pub holds : Holds bytes (inner_blocks table_kind (root_own root) layers)
  pub entries : es ≡ bottom (root_own root) layers
  pub climbs : Climbs es
  pub stand : addrs ≡ places (inner_blocks table_kind (root_own root) layers)

-- the device has a whole tree that the root leads to, its leaves too
pub record HasTree (bytes : List ℕ) (root : Root) (t : TableTree) : Type 0 where
  pub is : IsTree table_kind root.level (root_entry root.link) t
  pub addressed : AllByRecursion (λ (b : Block). IsAddressed b) (tree_blocks table_kind (root_entry root.link) t)
  pub holds : Holds bytes (tree_blocks table_kind (root_entry root.link) t)

-- no entries are those of such a tree
abbrev pub NoInner : List ℕ → Root → Type 0
NoInner bytes root = (es : List Entry) (addrs : List Addr) → InnerIs bytes root es addrs → ⊥

-- the device has the pages of these layers, from this level on down
abbrev pub AreLayers : List ℕ → ℕ → List Entry → List (Layer Entry) → Type 0
AreLayers bytes level own [] = Unit {0}
AreLayers bytes level own (pages ∷ layers) = ArePages bytes level own None pages × AreLayers bytes (level - 1) (join pages) layers

-- ---- the place of a tree

-- where a leaf stands, where it stands somewhere
abbrev pub leaf_addr : Addr → List Addr
leaf_addr a = if is_nowhere a then [] else a ∷ []

-- where the leaves of these entries stand
abbrev pub leaf_addrs : List Entry → List Addr
leaf_addrs [] = []
leaf_addrs (e ∷ es) = leaf_addr e.link.addr ++ leaf_addrs es

-- the place is that of the tree
pub record IsPlaceOf (p : TreePlace) (t : TableTree) : Type 0 where
  pub leaves : p.leaves.items ≡ map {A = Entry} (λ e. e.link) (bottom (root_own p.root) t.layers)
  pub addrs : p.addrs.items ≡ places (tree_blocks table_kind (root_entry p.root.link) t)
