-- The inner pages that entries lead to on a device.
use Rattle.std.specs.Prelude.{◌≡◌, ℕ, IsTrue, List, [], ◌∷◌, map, Option, Some, None}
use Rattle.std.specs.List.{AllByRecursion}
use Rattle.stored.specs.Blocks.{Block, IsAddressed, IsAt}
use Rattle.stored.specs.Links.{SaysOf}
use Rattle.stored.specs.Tree.{Layer, join}
use Rattle.stored.specs.TableTree.{Entry, Climbs, Leads, first_key, ends_below, inner_image}
use Rattle.inner_page.specs.Pages.{IsTablePage}

-- the keys are below the next page's, where there is one
abbrev pub Stays : Option (List ℕ) → List Entry → Type 0
Stays next p = AllByRecursion (λ (x : Entry). IsTrue (ends_below next x.key)) p

-- the block of an entry's page
abbrev pub page_block : ℕ → Entry → List Entry → Block
page_block level e p = record { place = e.link.addr; image = inner_image level p }

-- The device has the inner page of this level with these entries where an entry leads, and its keys are below the next page's.
pub record PageIs (bytes : List ℕ) (level : ℕ) (e : Entry) (next : Option (List ℕ)) (p : List Entry) : Type 0 where
  pub leads : Leads level e p
  pub stays : Stays next p
  pub addressed : IsAddressed (page_block level e p)
  pub holds : IsAt bytes (page_block level e p)

-- no entries make it such a page
abbrev pub NoPage : List ℕ → ℕ → Entry → Option (List ℕ) → Type 0
NoPage bytes level e next = (p : List Entry) → PageIs bytes level e next p → ⊥

-- ---- what is found in a block

-- these entries are those that an entry leads to, where a page of this key is the next
pub record Suits (e : Entry) (next : Option (List ℕ)) (p : List Entry) : Type 0 where
  pub begins : first_key p ≡ Some e.key
  pub stays : Stays next p
  pub says : SaysOf e.link (map (λ (x : Entry). x.link.greatest) p) (map (λ (x : Entry). x.link.durable) p)

-- the block is that of such a page
pub record IsPageOf (block : List ℕ) (level : ℕ) (e : Entry) (next : Option (List ℕ)) (p : List Entry) : Type 0 where
  pub page : IsTablePage block level p
  pub suits : Suits e next p

-- what is known of such entries whatever the device has: they begin with the entry's key, climb, and are below the next page's
pub record IsFormed (e : Entry) (next : Option (List ℕ)) (p : List Entry) : Type 0 where
  pub begins : first_key p ≡ Some e.key
  pub climbs : Climbs p
  pub stays : Stays next p

-- ---- a layer

-- the first key of these entries, or the one behind them
abbrev pub key_next : List Entry → Option (List ℕ) → Option (List ℕ)
key_next [] next = next
key_next (e ∷ own) next = Some e.key

-- the device has a page of this level for each of these entries
abbrev pub ArePages : List ℕ → ℕ → List Entry → Option (List ℕ) → Layer Entry → Type 0
ArePages bytes level [] next [] = Unit {0}
ArePages bytes level [] next (p ∷ pages) = ⊥
ArePages bytes level (e ∷ own) next [] = ⊥
ArePages bytes level (e ∷ own) next (p ∷ pages) = PageIs bytes level e (key_next own next) p × ArePages bytes level own next pages

-- these are the entries of the pages of a layer
pub record LayerIs (bytes : List ℕ) (level : ℕ) (own es : List Entry) : Type 0 where
  pub pages : Layer Entry
  pub are : ArePages bytes level own None pages
  pub entries : es ≡ join pages
