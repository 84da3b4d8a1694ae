-- The tree that the records of a history are cut into.
use Rattle.std.specs.Prelude.{◌≡◌, ℕ, ◌+◌, suc, ◌≤◌, List, [], ◌∷◌, ◌++◌, length, map}
use Rattle.std.specs.List.{AllByRecursion}
use Rattle.le_codec.specs.Images.{block_size}
use Rattle.stored.specs.Blocks.{Block}
use Rattle.stored.specs.Records.{Root}
use Rattle.stored.specs.Tree.{Layer, IsTree, join, bottom, leaf_blocks, page_blocks}
use Rattle.stored.specs.HistoryTree.{HistoryEntry, HistoryRecord, HistoryTree, history_kind, history_root_entry}
use Rattle.device_leaf.specs.NoHistory.{no_root}
use Rattle.hist_pages.specs.Leaves.{IsFull}
use Rattle.hist_pages.specs.Levels.{IsFull as IsFullPage}
use Rattle.hist_open.specs.Trees.{root_own}

-- each leaf has as many of the records as it has room for
abbrev pub AreFullLeaves : List (List HistoryRecord) → Type 0
AreFullLeaves [] = Unit {0}
AreFullLeaves (records ∷ leaves) = IsFull records (join leaves) × AreFullLeaves leaves

-- each page of a layer has as many of its entries as it has room for
abbrev pub AreFullPages : Layer HistoryEntry → Type 0
AreFullPages [] = Unit {0}
AreFullPages (page ∷ pages) = IsFullPage page (join pages) × AreFullPages pages

-- no page above has one entry alone: the root leads to two pages at least, where it is no leaf
abbrev pub IsNeeded : List (Layer HistoryEntry) → Type 0
IsNeeded [] = Unit {0}
IsNeeded (pages ∷ layers) = 2 ≤ length (join pages)

-- The history of these records: each page but the last of its layer has as many as it has room for, and it is no higher than it must be. That of no records stands nowhere.
pub record IsCut (root : Root) (records : List HistoryRecord) (t : HistoryTree) : Type 0 where
  pub tree : IsTree history_kind root.level (history_root_entry root.link) t
  pub whole : join t.leaves ≡ records
  pub full_leaves : AreFullLeaves t.leaves
  pub full_layers : AllByRecursion AreFullPages t.layers
  pub needed : IsNeeded t.layers
  pub nowhere : records ≡ [] → root ≡ no_root

-- ---- the order in which it is captured

-- the blocks of the inner pages below these entries, the lowest layer first
abbrev pub risen_blocks : List HistoryEntry → List (Layer HistoryEntry) → List Block
risen_blocks own [] = []
risen_blocks own (pages ∷ layers) = risen_blocks (join pages) layers ++ page_blocks history_kind (suc (length layers)) own pages

-- the blocks of a history in the order in which they are captured: its leaves, and then its inner pages from the lowest layer up
abbrev pub captured_blocks : Root → HistoryTree → List Block
captured_blocks root t = leaf_blocks history_kind (bottom (root_own root) t.layers) t.leaves ++ risen_blocks (root_own root) t.layers

-- how many pages there are
abbrev pub page_count : List (Layer HistoryEntry) → ℕ
page_count [] = 0
page_count (pages ∷ layers) = length pages + page_count layers

-- the bytes that blocks have
abbrev pub sizes_of : List Block → List ℕ
sizes_of blocks = map {A = Block} (λ b. block_size (length b.image)) blocks
