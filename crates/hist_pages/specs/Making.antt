-- Leaves as they are made.
use Rattle.std.specs.Prelude.{◌≡◌, ◌≤◌, ℕ, List, [], ◌∷◌, ◌++◌, map, Option, Some, None, slice_get}
use Rattle.std.specs.declared.cmp.Ordering.TheVariants.{Less}
use Rattle.item.specs.declared.change.Change.{Change}
use Rattle.stamp.specs.declared.Version.{Version}
use Rattle.kv_model.specs.Holds.{Member, Descends}
use Rattle.le_codec.specs.Images.{block_of}
use Rattle.row_page.specs.Greatest.{greatest_in, most_in}
use Rattle.stored.specs.HistoryTree.{HistoryRecord, first_record, history_image}
use Rattle.hist_store.specs.declared.key_history.KeyHistory.{KeyHistory}
use Rattle.hist_store.specs.Versions.{versions_of}
use Rattle.hist_pages.specs.declared.leaf.HistoryLeaf.{HistoryLeaf}
use Rattle.hist_pages.specs.declared.leaves.Leaves.{Leaves}
use Rattle.hist_pages.specs.declared.open_leaf.OpenLeaf.{OpenLeaf}
use Rattle.hist_pages.specs.Leaves.{IsFull, durables_of, image_length, names_of}
use Rattle.hist_pages.specs.Records.{record_of, stamp_cmp}
use Rattle.hist_pages.specs.Writing.{Wrote}

-- ---- the leaf that is open

-- it has these records, and they fit
pub record HasRecords (o : OpenLeaf) (records : List HistoryRecord) : Type 0 where
  pub wrote : Wrote o.writer records
  pub small : image_length records ≤ 32768
  pub least : first_record records ≡ Some o.least
  pub greatest : o.greatest ≡ greatest_in (names_of records)
  pub durable : o.durable ≡ most_in (durables_of records)

-- the records of the leaf that is open, none where none is
abbrev pub OpenHas : Option OpenLeaf → List HistoryRecord → Type 0
OpenHas None records = records ≡ []
OpenHas (Some o) records = HasRecords o records

-- ---- leaves that are done

-- the block spells these records, which fit, and these are their least record, their greatest name and durable stamp
pub record Holds (leaf : HistoryLeaf) (records : List HistoryRecord) : Type 0 where
  pub least : first_record records ≡ Some leaf.least
  pub block : leaf.block.items ≡ block_of (history_image records)
  pub small : image_length records ≤ 32768
  pub greatest : leaf.greatest ≡ greatest_in (names_of records)
  pub durable : leaf.durable ≡ most_in (durables_of records)

-- the records begin with those of the first leaf
pub record Starts (leaf : HistoryLeaf) (Others : List HistoryRecord → Type 0) (records : List HistoryRecord) : Type 0 where
  pub front : List HistoryRecord
  pub others : List HistoryRecord
  pub holds : Holds leaf front
  pub full : IsFull front others
  pub go_on : Others others
  pub whole : records ≡ front ++ others

-- the leaves have the first of the records, and last has the others
abbrev pub Behind : List HistoryLeaf → List HistoryRecord → List HistoryRecord → Type 0
Behind [] last records = records ≡ last
Behind (leaf ∷ leaves) last records = Starts leaf (Behind leaves last) records

-- a leaf is open where there are records
abbrev pub HasBegun : Option OpenLeaf → List HistoryLeaf → Type 0
HasBegun None done = done ≡ []
HasBegun (Some o) done = Unit {0}

-- the records are in the leaves that are done, and then in the one that is open
pub record HaveRecords (leaves : Leaves) (records : List HistoryRecord) : Type 0 where
  pub last : List HistoryRecord
  pub opened : OpenHas leaves.opened last
  pub begun : HasBegun leaves.opened leaves.done.items
  pub behind : Behind leaves.done.items last records

-- the leaf that was open, where one was, is behind the others
abbrev pub IsClosed : List HistoryLeaf → Option OpenLeaf → List HistoryRecord → List HistoryLeaf → Type 0
IsClosed done None records now = now ≡ done
IsClosed done (Some o) records now = (leaf : HistoryLeaf) × Holds leaf records × (now ≡ done ++ leaf ∷ [])

-- the same, where the leaves that are done are all
abbrev pub Have : List HistoryLeaf → List HistoryRecord → Type 0
Have [] records = records ≡ []
Have (leaf ∷ leaves) records = Starts leaf (Have leaves) records

-- ---- the versions of a key

-- the first has another name, and comes before
pub record ComesAfter (w v : Version Change) : Type 0 where
  pub stamps : stamp_cmp v w ≡ Less
  pub names : v.window.name ≡ w.window.name → ⊥

-- the versions, in the order of their stamps
pub record AreByStamp (versions sorted : List (Version Change)) : Type 0 where
  pub all : (v : Version Change) → Member v versions → Member v sorted
  pub only : (v : Version Change) → Member v sorted → Member v versions
  pub rises : Descends ComesAfter sorted

abbrev pub records_of : KeyHistory → List (Version Change) → List HistoryRecord
records_of h versions = map (record_of h.table h.key) versions

-- the records of a slot's versions, and then others
pub record Part (slots : List KeyHistory) (i : ℕ) (Others : List HistoryRecord → Type 0) (records : List HistoryRecord) : Type 0 where
  pub slot : KeyHistory
  pub at : slice_get slots i ≡ Some slot
  pub own : versions_of slot.table slot.key slots ≡ slot.versions
  pub sorted : List (Version Change)
  pub by_stamp : AreByStamp slot.versions sorted
  pub others : List HistoryRecord
  pub go_on : Others others
  pub whole : records ≡ records_of slot sorted ++ others

-- the records of the slots of a way, one behind the other
abbrev pub Along : List KeyHistory → List ℕ → List HistoryRecord → Type 0
Along slots [] records = records ≡ []
Along slots (i ∷ way) records = Part slots i (Along slots way) records

-- the records of the way but for what is left are in the leaves
pub record AreGone (slots : List KeyHistory) (way left : List ℕ) (leaves : Leaves) : Type 0 where
  pub front : List ℕ
  pub records : List HistoryRecord
  pub whole : front ++ left ≡ way
  pub along : Along slots front records
  pub have : HaveRecords leaves records
