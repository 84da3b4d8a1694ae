-- The inner pages of the history that entries lead to on a device.
use Rattle.std.specs.Prelude.{◌≡◌, ℕ, IsTrue, List, [], ◌∷◌, map, Option, Some, None}
use Rattle.std.specs.List.{AllByRecursion}
use Rattle.stored.specs.Blocks.{Block, IsAddressed, IsAt}
use Rattle.stored.specs.Links.{SaysOf}
use Rattle.stored.specs.Tree.{Layer, join}
use Rattle.stored.specs.HistoryTree.{HistoryEntry, Mark, Begins, HistoryLeads, first_mark, ends_before, history_inner_image}
use Rattle.inner_page.specs.Pages.{IsHistoryPage}

-- the records are before the next page's, where there is one
abbrev pub Stays : Option Mark → List HistoryEntry → Type 0
Stays next p = AllByRecursion (λ (x : HistoryEntry). IsTrue (ends_before next x.least)) p

-- the block of an entry's page
abbrev pub page_block : ℕ → HistoryEntry → List HistoryEntry → Block
page_block level e p = record { place = e.link.addr; image = history_inner_image level p }

-- The device has the inner page of this level with these entries where an entry leads, and its records are before the next page's.
pub record PageIs (bytes : List ℕ) (level : ℕ) (e : HistoryEntry) (next : Option Mark) (p : List HistoryEntry) : Type 0 where
  pub leads : HistoryLeads level e p
  pub stays : Stays next p
  pub addressed : IsAddressed (page_block level e p)
  pub holds : IsAt bytes (page_block level e p)

-- no entries make it such a page
abbrev pub NoPage : List ℕ → ℕ → HistoryEntry → Option Mark → Type 0
NoPage bytes level e next = (p : List HistoryEntry) → PageIs bytes level e next p → ⊥

-- ---- what is found in a block

-- these entries are those that an entry leads to, where a page of this record is the next
pub record Suits (e : HistoryEntry) (next : Option Mark) (p : List HistoryEntry) : Type 0 where
  pub begins : Begins e (first_mark p)
  pub stays : Stays next p
  pub says : SaysOf e.link (map (λ (x : HistoryEntry). x.link.greatest) p) (map (λ (x : HistoryEntry). x.link.durable) p)

-- the block is that of such a page
pub record IsPageOf (block : List ℕ) (level : ℕ) (e : HistoryEntry) (next : Option Mark) (p : List HistoryEntry) : Type 0 where
  pub page : IsHistoryPage block level p
  pub suits : Suits e next p

-- ---- a layer

-- the first record of these entries, or the one behind them
abbrev pub mark_next : List HistoryEntry → Option Mark → Option Mark
mark_next [] next = next
mark_next (e ∷ own) next = Some e.least

-- the device has a page of this level for each of these entries
abbrev pub ArePages : List ℕ → ℕ → List HistoryEntry → Option Mark → Layer HistoryEntry → Type 0
ArePages bytes level [] next [] = Unit {0}
ArePages bytes level [] next (p ∷ pages) = ⊥
ArePages bytes level (e ∷ own) next [] = ⊥
ArePages bytes level (e ∷ own) next (p ∷ pages) = PageIs bytes level e (mark_next own next) p × ArePages bytes level own next pages

-- these are the entries of the pages of a layer
pub record LayerIs (bytes : List ℕ) (level : ℕ) (own es : List HistoryEntry) : Type 0 where
  pub pages : Layer HistoryEntry
  pub are : ArePages bytes level own None pages
  pub entries : es ≡ join pages
