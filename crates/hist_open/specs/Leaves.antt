-- The leaves of the history on a device.
use Rattle.std.specs.Prelude.{◌≡◌, ℕ, IsTrue, List, [], ◌∷◌, ◌++◌, map, Option, None, if◌then◌else◌}
use Rattle.std.specs.List.{AllByRecursion}
use Rattle.device_layout.specs.declared.addr.Addr.{Addr}
use Rattle.stored.specs.Blocks.{Block, IsAddressed, Holds}
use Rattle.stored.specs.Links.{SaysOf, is_nowhere}
use Rattle.stored.specs.Tree.{join}
use Rattle.stored.specs.HistoryTree.{HistoryEntry, HistoryRecord, HistoryBears, Mark, Begins, mark_of, first_record, ends_before, history_image}
use Rattle.inner_page.specs.Pages.{IsHistoryLeaf}
use Rattle.tree_open.specs.Trees.{leaf_addr}
use Rattle.hist_open.specs.Pages.{mark_next}

-- the records are before the next leaf's, where there is one
abbrev pub RecordsStay : Option Mark → List HistoryRecord → Type 0
RecordsStay next records = AllByRecursion (λ (r : HistoryRecord). IsTrue (ends_before next (mark_of r))) records

-- the block of an entry's leaf, where it is stored
abbrev pub leaf_block : HistoryEntry → List HistoryRecord → List Block
leaf_block e records = if is_nowhere e.link.addr then [] else record { place = e.link.addr; image = history_image records } ∷ []

-- the device has a leaf of these records where an entry leads, and they are before the next entry's
pub record IsUnder (bytes : List ℕ) (e : HistoryEntry) (next : Option Mark) (records : List HistoryRecord) : Type 0 where
  pub bears : HistoryBears e records
  pub stays : RecordsStay next records
  pub addressed : AllByRecursion (λ (b : Block). IsAddressed b) (leaf_block e records)
  pub holds : Holds bytes (leaf_block e records)

-- no records make it such a leaf
abbrev pub NoneUnder : List ℕ → HistoryEntry → Option Mark → Type 0
NoneUnder bytes e next = (records : List HistoryRecord) → IsUnder bytes e next records → ⊥

-- the device has a leaf for each of these entries
abbrev pub AreLeaves : List ℕ → List HistoryEntry → Option Mark → List (List HistoryRecord) → Type 0
AreLeaves bytes [] next [] = Unit {0}
AreLeaves bytes [] next (records ∷ leaves) = ⊥
AreLeaves bytes (e ∷ es) next [] = ⊥
AreLeaves bytes (e ∷ es) next (records ∷ leaves) = IsUnder bytes e (mark_next es next) records × AreLeaves bytes es next leaves

-- these are the records of the leaves of these entries
pub record RecordsAre (bytes : List ℕ) (es : List HistoryEntry) (records : List HistoryRecord) : Type 0 where
  pub leaves : List (List HistoryRecord)
  pub are : AreLeaves bytes es None leaves
  pub joined : records ≡ join leaves

-- where the leaves of these entries stand
abbrev pub leaf_addrs : List HistoryEntry → List Addr
leaf_addrs [] = []
leaf_addrs (e ∷ es) = leaf_addr e.link.addr ++ leaf_addrs es

-- ---- what is found in a block

-- these records are those of the entry's leaf: it begins with them, the link says the greatest of them, and they are before the next entry's
pub record IsLeafOf (e : HistoryEntry) (next : Option Mark) (records : List HistoryRecord) : Type 0 where
  pub begins : Begins e (first_record records)
  pub stays : RecordsStay next records
  pub says : SaysOf e.link (map (λ (r : HistoryRecord). r.version.window.name) records) (map (λ (r : HistoryRecord). r.version.window.durable) records)

-- the block is that of such a leaf
pub record SpellsLeaf (block : List ℕ) (e : HistoryEntry) (next : Option Mark) (records : List HistoryRecord) : Type 0 where
  pub leaf : IsHistoryLeaf block records
  pub suits : IsLeafOf e next records
