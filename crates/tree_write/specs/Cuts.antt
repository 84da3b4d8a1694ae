-- The tree that rows are cut into.
use Rattle.std.specs.Prelude.{◌≡◌, ◌⊎◌, suc, ◌≤◌, List, [], ◌∷◌, ◌++◌, length}
use Rattle.std.specs.List.{AllByRecursion}
use Rattle.row_page.specs.Rows.{Row}
use Rattle.stored.specs.Blocks.{Block}
use Rattle.stored.specs.Records.{Root}
use Rattle.stored.specs.Tree.{Layer, IsTree, join, bottom, leaf_blocks, page_blocks}
use Rattle.stored.specs.TableTree.{Entry, TableTree, table_kind, root_entry}
use Rattle.device_leaf.specs.NoHistory.{no_root}
use Rattle.reconcile.specs.Images.{IsFull}
use Rattle.tree_dir.specs.Levels.{IsFull as IsFullPage}
use Rattle.tree_open.specs.Trees.{root_own}

-- each leaf has as many of the rows as it has room for
abbrev pub AreFullLeaves : List (List Row) → Type 0
AreFullLeaves [] = Unit {0}
AreFullLeaves (rows ∷ leaves) = IsFull rows (join leaves) × AreFullLeaves leaves

-- each page of a layer has as many of its entries as it has room for
abbrev pub AreFullPages : Layer Entry → Type 0
AreFullPages [] = Unit {0}
AreFullPages (page ∷ pages) = IsFullPage page (join pages) × AreFullPages pages

-- no page above has one entry alone: the root leads to two pages at least, where it is no leaf
abbrev pub IsNeeded : List (Layer Entry) → Type 0
IsNeeded [] = Unit {0}
IsNeeded (pages ∷ layers) = 2 ≤ length (join pages)

-- The tree of these rows: each page but the last of its layer has as many as it has room for, and it is no higher than it must be. The tree of no rows stands nowhere.
pub record IsCut (root : Root) (rows : List Row) (t : TableTree) : Type 0 where
  pub tree : IsTree table_kind root.level (root_entry root.link) t
  pub whole : join t.leaves ≡ rows
  pub full_leaves : AreFullLeaves t.leaves
  pub full_layers : AllByRecursion AreFullPages t.layers
  pub needed : IsNeeded t.layers
  pub some : (rows ≡ []) ⊎ AllByRecursion (λ (l : List Row). 1 ≤ length l) t.leaves
  pub nowhere : rows ≡ [] → root ≡ no_root

-- ---- the order in which it is captured

-- the blocks of the inner pages below these entries, the lowest layer first
abbrev pub risen_blocks : List Entry → List (Layer Entry) → List Block
risen_blocks own [] = []
risen_blocks own (pages ∷ layers) = risen_blocks (join pages) layers ++ page_blocks table_kind (suc (length layers)) own pages

-- the blocks of a tree in the order in which they are captured: its leaves, and then its inner pages from the lowest layer up
abbrev pub captured_blocks : Root → TableTree → List Block
captured_blocks root t = leaf_blocks table_kind (bottom (root_own root) t.layers) t.leaves ++ risen_blocks (root_own root) t.layers
