-- The tree of the history on a device.
use Rattle.std.specs.Prelude.{◌≡◌, ℕ, ◌-◌, List, [], ◌∷◌, length, None}
use Rattle.std.specs.List.{AllByRecursion}
use Rattle.device_layout.specs.declared.addr.Addr.{Addr}
use Rattle.stored.specs.Blocks.{Block, IsAddressed, Holds}
use Rattle.stored.specs.Tree.{Layer, join, inner_blocks, bottom, AllLead, IsTree, tree_blocks}
use Rattle.stored.specs.HistoryTree.{HistoryEntry, HistoryClimbs, HistoryTree, history_kind, history_root_entry}
use Rattle.stored.specs.Records.{Root}
use Rattle.tree_open.specs.Trees.{places}
use Rattle.hist_open.specs.declared.history.History.{History}
use Rattle.hist_open.specs.Pages.{ArePages}

-- the entry that a root is
abbrev pub root_own : Root → List HistoryEntry
root_own root = history_root_entry root.link ∷ []

-- The device has the inner pages of a history that the root leads to: these are the entries of its leaves, and the pages stand there.
pub record InnerIs (bytes : List ℕ) (root : Root) (es : List HistoryEntry) (addrs : List Addr) : Type 0 where
  pub layers : List (Layer HistoryEntry)
  pub levels : length layers ≡ root.level
  pub lead : AllLead history_kind (root_own root) layers
  pub addressed : AllByRecursion (λ (b : Block). IsAddressed b) (inner_blocks history_kind (root_own root) layers)
  pub holds : Holds bytes (inner_blocks history_kind (root_own root) layers)
  pub entries : es ≡ bottom (root_own root) layers
  pub climbs : HistoryClimbs es
  pub stand : addrs ≡ places (inner_blocks history_kind (root_own root) layers)

-- the device has a whole history that the root leads to
pub record HasHistory (bytes : List ℕ) (root : Root) (t : HistoryTree) : Type 0 where
  pub is : IsTree history_kind root.level (history_root_entry root.link) t
  pub addressed : AllByRecursion (λ (b : Block). IsAddressed b) (tree_blocks history_kind (history_root_entry root.link) t)
  pub holds : Holds bytes (tree_blocks history_kind (history_root_entry root.link) t)

-- no entries are those of such a history
abbrev pub NoInner : List ℕ → Root → Type 0
NoInner bytes root = (es : List HistoryEntry) (addrs : List Addr) → InnerIs bytes root es addrs → ⊥

-- the device has no such history
abbrev pub NoHistory : List ℕ → Root → Type 0
NoHistory bytes root = (t : HistoryTree) → HasHistory bytes root t → ⊥

-- the device has the pages of these layers, from this level on down
abbrev pub AreLayers : List ℕ → ℕ → List HistoryEntry → List (Layer HistoryEntry) → Type 0
AreLayers bytes level own [] = Unit {0}
AreLayers bytes level own (pages ∷ layers) = ArePages bytes level own None pages × AreLayers bytes (level - 1) (join pages) layers

-- what was read is the history of the root: its records in their order, and where its blocks stand
pub record IsRead (bytes : List ℕ) (root : Root) (h : History) : Type 0 where
  pub tree : HistoryTree
  pub has : HasHistory bytes root tree
  pub all : h.records.items ≡ join tree.leaves
  pub stand : h.addrs.items ≡ places (tree_blocks history_kind (history_root_entry root.link) tree)
