-- Why no history is read.
use Rattle.std.specs.Prelude.{◌≡◌, ◌⊎◌, ℕ, ◌-◌, ◌<◌, List, ◌∷◌, ◌++◌, length, Option, Some, None}
use Rattle.wt_code.specs.declared.refusals.Refusal.{Refusal}
use Rattle.wt_code.specs.declared.refusals.Refusal.TheVariants.{Corrupt, NoMemory}
use Rattle.device_layout.specs.declared.addr.Addr.{Addr}
use Rattle.block_mgr.specs.Places.{Spoils}
use Rattle.stored.specs.Tree.{Layer, bottom, join}
use Rattle.stored.specs.HistoryTree.{HistoryEntry, HistoryRecord, Mark, NamesOnce, first_mark}
use Rattle.stored.specs.Records.{Root}
use Rattle.hist_open.specs.Pages.{NoPage, IsPageOf, ArePages}
use Rattle.hist_open.specs.Trees.{NoInner, InnerIs, AreLayers, root_own}
use Rattle.hist_open.specs.Leaves.{NoneUnder, AreLeaves, SpellsLeaf}

-- no such page is where the entry leads: its block has another sum than the entry says, or the same
pub record PageSpoils (bytes : List ℕ) (level : ℕ) (e : HistoryEntry) (next : Option Mark) (at want found : ℕ) : Type 0 where
  pub none : NoPage bytes level e next
  pub place : at ≡ e.link.addr.offset
  pub sum : want ≡ e.link.addr.sum
  pub why : Spoils bytes e.link.addr found ⊎ (found ≡ e.link.addr.sum)

-- the pages of the entries in front are there, and that of the one behind them is the first at fault
pub record LayerSpoils (bytes : List ℕ) (level : ℕ) (own : List HistoryEntry) (at want found : ℕ) : Type 0 where
  pub front : List HistoryEntry
  pub entry : HistoryEntry
  pub others : List HistoryEntry
  pub is : own ≡ front ++ entry ∷ others
  pub pages : Layer HistoryEntry
  pub before : ArePages bytes level front (Some entry.least) pages
  pub page : PageSpoils bytes level entry (first_mark others) at want found

-- there are no such inner pages: the layers above are there, and a page of the next one is at fault
pub record InnerSpoils (bytes : List ℕ) (root : Root) (at want found : ℕ) : Type 0 where
  pub none : NoInner bytes root
  pub layers : List (Layer HistoryEntry)
  pub few : length layers < root.level
  pub above : AreLayers bytes root.level (root_own root) layers
  pub layer : LayerSpoils bytes (root.level - length layers) (bottom (root_own root) layers) at want found

-- why a block is not that of a page
abbrev pub RefusesPage : List ℕ → ℕ → HistoryEntry → Option Mark → Refusal → Type 0
RefusesPage block level e next r = (r ≡ NoMemory) ⊎ ((r ≡ Corrupt e.link.addr.offset e.link.addr.sum e.link.addr.sum) × ((p : List HistoryEntry) → IsPageOf block level e next p → ⊥))

-- ---- the leaves

-- no such leaf is where the entry leads: its block has another sum than the entry says, or the same
pub record EntrySpoils (bytes : List ℕ) (e : HistoryEntry) (next : Option Mark) (at want found : ℕ) : Type 0 where
  pub none : NoneUnder bytes e next
  pub place : at ≡ e.link.addr.offset
  pub sum : want ≡ e.link.addr.sum
  pub why : Spoils bytes e.link.addr found ⊎ (found ≡ e.link.addr.sum)

-- the leaves of the entries in front are there, and that of the one behind them is the first at fault
pub record LeavesSpoil (bytes : List ℕ) (es : List HistoryEntry) (at want found : ℕ) : Type 0 where
  pub front : List HistoryEntry
  pub entry : HistoryEntry
  pub others : List HistoryEntry
  pub is : es ≡ front ++ entry ∷ others
  pub leaves : List (List HistoryRecord)
  pub before : AreLeaves bytes front (Some entry.least) leaves
  pub leaf : EntrySpoils bytes entry (first_mark others) at want found

-- why a block is not that of a leaf
abbrev pub RefusesLeaf : List ℕ → HistoryEntry → Option Mark → Refusal → Type 0
RefusesLeaf block e next r = (r ≡ NoMemory) ⊎ ((r ≡ Corrupt e.link.addr.offset e.link.addr.sum e.link.addr.sum) × ((records : List HistoryRecord) → SpellsLeaf block e next records → ⊥))

-- the inner pages are there, and a leaf is at fault
pub record LeafSpoils (bytes : List ℕ) (root : Root) (at want found : ℕ) : Type 0 where
  pub es : List HistoryEntry
  pub addrs : List Addr
  pub inner : InnerIs bytes root es addrs
  pub leaves : LeavesSpoil bytes es at want found

-- all leaves are there, and a name stands twice for a key in two of them, which is told of the root
pub record NamesTwice (bytes : List ℕ) (root : Root) (at want found : ℕ) : Type 0 where
  pub es : List HistoryEntry
  pub addrs : List Addr
  pub inner : InnerIs bytes root es addrs
  pub leaves : List (List HistoryRecord)
  pub are : AreLeaves bytes es None leaves
  pub twice : NamesOnce (join leaves) → ⊥
  pub place : at ≡ root.link.addr.offset
  pub sum : want ≡ root.link.addr.sum
  pub same : found ≡ root.link.addr.sum

-- damage of the history: of an inner page, of a leaf, or between the leaves
abbrev pub HistorySpoils : List ℕ → Root → (at want found : ℕ) → Type 0
HistorySpoils bytes root at want found = InnerSpoils bytes root at want found ⊎ (LeafSpoils bytes root at want found ⊎ NamesTwice bytes root at want found)
