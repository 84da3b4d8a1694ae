-- The block of an inner page, and of a leaf of the history.
use Rattle.std.specs.Prelude.{◌≡◌, ℕ, ◌*◌, Bool, ◌&&◌, ◌==◌, nat_le, List}
use Rattle.le_codec.specs.Images.{block_of}
use Rattle.limits.specs.declared.TheConstants.{LEVELS_MAX}
use Rattle.stored.specs.TableTree.{Entry, AreEntries, inner_image}
use Rattle.stored.specs.HistoryTree.{HistoryEntry, AreHistoryEntries, history_inner_image, HistoryRecord, AreRecords, history_image}

-- a block is that of the inner page of a table at this level, with these entries
pub record IsTablePage (block : List ℕ) (level : ℕ) (es : List Entry) : Type 0 where
  pub admitted : AreEntries level es
  pub spelled : block ≡ block_of (inner_image level es)

-- the same of the history
pub record IsHistoryPage (block : List ℕ) (level : ℕ) (es : List HistoryEntry) : Type 0 where
  pub admitted : AreHistoryEntries level es
  pub spelled : block ≡ block_of (history_inner_image level es)

-- a block is that of the leaf of the history with these records
pub record IsHistoryLeaf (block : List ℕ) (records : List HistoryRecord) : Type 0 where
  pub admitted : AreRecords records
  pub spelled : block ≡ block_of (history_image records)

-- a page may have this level, so many entries of at least so many bytes, and a text of this length
abbrev pub page_fits : ℕ → ℕ → ℕ → ℕ → Bool
page_fits least level count len = (nat_le 1 level && nat_le level LEVELS_MAX) && nat_le 1 count && (nat_le (least * count) len && nat_le len 4080)

-- a leaf of the history may have this level, so many records, and a text of this length
abbrev pub leaf_fits : ℕ → ℕ → ℕ → Bool
leaf_fits level count len = (level == 0) && nat_le 1 count && nat_le (43 * count) len && nat_le len 32752
