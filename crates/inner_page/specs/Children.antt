-- Below which entry of a page a key or a record stands.
use Rattle.std.specs.Prelude.{◌≡◌, ◌⊎◌, ℕ, ◌+◌, ◌<◌, true, false, List, length, take, drop}
use Rattle.std.specs.List.{AllByRecursion}
use Rattle.row_page.specs.Rows.{is_below}
use Rattle.stored.specs.TableTree.{Entry}
use Rattle.stored.specs.HistoryTree.{HistoryEntry, Mark, is_before}

-- The key stands below the i-th entry: it is the first, or no entry up to it is above the key; and all behind it are above.
pub record IsUnderKey (es : List Entry) (key : List ℕ) (i : ℕ) : Type 0 where
  pub within : i < length es
  pub upto : (i ≡ 0) ⊎ AllByRecursion (λ (e : Entry). is_below key e.key ≡ false) (take (i + 1) es)
  pub behind : AllByRecursion (λ (e : Entry). is_below key e.key ≡ true) (drop (i + 1) es)

-- The record with this mark stands below the i-th entry: it is the first, or no entry up to it comes behind the mark; and all behind it do.
pub record IsUnderMark (es : List HistoryEntry) (mark : Mark) (i : ℕ) : Type 0 where
  pub within : i < length es
  pub upto : (i ≡ 0) ⊎ AllByRecursion (λ (e : HistoryEntry). is_before mark e.least ≡ false) (take (i + 1) es)
  pub behind : AllByRecursion (λ (e : HistoryEntry). is_before mark e.least ≡ true) (drop (i + 1) es)
