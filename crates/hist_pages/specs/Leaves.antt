-- Records as the leaves that are written.
use Rattle.std.specs.Prelude.{◌≡◌, ◌+◌, ◌<◌, ℕ, List, [], ◌∷◌, ◌++◌, length, map, Some, slice_get}
use Rattle.std.specs.List.{flat_map}
use Rattle.stamp.specs.declared.name.Name.{Name}
use Rattle.row_page.specs.Greatest.{greatest_in, most_in}
use Rattle.stored.specs.HistoryTree.{HistoryRecord, first_record, record_text}
use Rattle.inner_page.specs.Pages.{IsHistoryLeaf}
use Rattle.hist_store.specs.declared.key_history.KeyHistory.{KeyHistory}
use Rattle.hist_pages.specs.declared.leaf.HistoryLeaf.{HistoryLeaf}
use Rattle.hist_pages.specs.Records.{AreRecordsOf}

-- the names and the durable stamps of the records' versions
abbrev pub names_of : List HistoryRecord → List Name
names_of records = map {A = HistoryRecord} (λ r. r.version.window.name) records

abbrev pub durables_of : List HistoryRecord → List ℕ
durables_of records = map {A = HistoryRecord} (λ r. r.version.window.durable) records

-- the bytes of their image, with its header
abbrev pub image_length : List HistoryRecord → ℕ
image_length records = 16 + length (flat_map record_text records)

-- the leaf's block spells these records, of which there are some, and these are its least record, its greatest name and durable stamp
pub record SpellsRecords (leaf : HistoryLeaf) (records : List HistoryRecord) : Type 0 where
  pub least : first_record records ≡ Some leaf.least
  pub block : IsHistoryLeaf leaf.block.items records
  pub greatest : leaf.greatest ≡ greatest_in (names_of records)
  pub durable : leaf.durable ≡ most_in (durables_of records)

-- the first of the others had no room behind these records
abbrev pub IsFull : List HistoryRecord → List HistoryRecord → Type 0
IsFull records others = (r : HistoryRecord) → slice_get others 0 ≡ Some r → 32768 < image_length (records ++ r ∷ [])

-- the records begin with those of the first leaf, which is full, and the others are those of the other leaves
pub record Begins (leaf : HistoryLeaf) (Others : List HistoryRecord → Type 0) (records : List HistoryRecord) : Type 0 where
  pub front : List HistoryRecord
  pub others : List HistoryRecord
  pub spells : SpellsRecords leaf front
  pub full : IsFull front others
  pub go_on : Others others
  pub whole : records ≡ front ++ others

-- the leaves have the records, one behind the other, each as many as it has room for; no leaf where there are no records
abbrev pub AreLeaves : List HistoryLeaf → List HistoryRecord → Type 0
AreLeaves [] records = records ≡ []
AreLeaves (leaf ∷ leaves) records = Begins leaf (AreLeaves leaves) records

-- the leaves have all records of the history
pub record AreLeavesOf (slots : List KeyHistory) (leaves : List HistoryLeaf) : Type 0 where
  pub records : List HistoryRecord
  pub are : AreRecordsOf slots records
  pub cut : AreLeaves leaves records
