-- Which histories an opening keeps, and what the leaves show that it opens.
use Rattle.std.specs.Prelude.{◌≡◌, ℕ, true, IsTrue, List, [], None}
use Rattle.std.specs.List.{AllByRecursion}
use Rattle.kv_model.specs.AgreementLaws.{head_of}
use Rattle.kv_model.specs.Content.{Content, IsLayered, base}
use Rattle.kv_model.specs.History.{has_table, line}
use Rattle.kv_model.specs.Holds.{Descends}
use Rattle.kv_model.specs.OpeningLaws.{cell_of}
use Rattle.kv_model.specs.Ordered.{Older}
use Rattle.kv_model.specs.Regular.{IsRegular}
use Rattle.kv_model.specs.StoreLaws.{or_else}
use Rattle.row_page.specs.Rows.{Row}
use Rattle.stored.specs.HistoryTree.{HistoryRecord, NamesOnce, RecordFits}
use Rattle.stored.specs.Records.{Root}
use Rattle.leaf_rows.specs.declared.marks.Marks.{Marks}
use Rattle.leaf_rows.specs.Contents.{is_seen_row, seen_rows}
use Rattle.leaf_rows.specs.Rows.{AreFit}
use Rattle.reconcile.specs.Shows.{shown_at}
use Rattle.reconcile.specs.declared.image.Moved.{Moved}
use Rattle.reconcile.specs.Moving.{versions_in}
use Rattle.engine_world.specs.Systems.{AreNewest}
use Rattle.evict_step.specs.Backs.{unlike, with_shown}
use Rattle.hist_open.specs.declared.history.History.{History}
use Rattle.hist_open.specs.Trees.{IsRead}
use Rattle.ckpt_content.specs.Opened.{AreKeptRecords}
use Rattle.kept_open.specs.Keeping.{HasMarks}
use Rattle.kept_open.specs.Opening.{opened_rows, shows}

-- ---- histories

-- what is read of a history has the records that `keep_history` takes
pub record IsFit (records : List HistoryRecord) : Type 0 where
  pub fit : AllByRecursion (λ (r : HistoryRecord). RecordFits r) records
  pub once : NamesOnce records

abbrev pub ReadHistoriesFit : Type 0
ReadHistoriesFit = (bytes : List ℕ) (root : Root) (h : History) → IsRead bytes root h → IsFit h.records.items

-- ---- leaves

-- The rows of a block have the cell of the key, and the versions of the key in the list are its records that are kept.
pub record AreOf (c : Content) (m : Marks) (ids : List ℕ) (table : ℕ) (key : List ℕ) (rows : List Row) (list : List Moved) : Type 0 where
  pub regular : IsRegular c
  pub layered : IsLayered c
  pub marks : HasMarks c m ids
  pub there : has_table c.tables table ≡ true
  pub fit : AreFit rows
  pub cell : shown_at key rows ≡ cell_of c table key
  pub kept : AreKeptRecords c table key (versions_in key list)

-- the rows show of each key what was kept of its row, or else the first of its versions
abbrev pub OpenedRowsShow : Type 0
OpenedRowsShow = (seen : List Row) (list : List Moved) (key : List ℕ) → shown_at key (opened_rows seen list) ≡ or_else (shown_at key seen) (head_of (versions_in key list))

-- that is the newest version of the key, and the others in the list are its older ones
abbrev pub RowsOpen : Type 0
RowsOpen = (c : Content) (m : Marks) (ids : List ℕ) (table : ℕ) (key : List ℕ) (rows : List Row) (list : List Moved) → AreOf c m ids table key rows list
    → AreNewest (line (base c) table key) (shown_at key (opened_rows (seen_rows m ids rows) list)) (versions_in key (unlike (opened_rows (seen_rows m ids rows) list) list))

-- so it is with any rows that show the same
abbrev pub ShownRowsOpen : Type 0
ShownRowsOpen = (c : Content) (m : Marks) (ids : List ℕ) (table : ℕ) (key : List ℕ) (rows shelf : List Row) (list : List Moved) → AreOf c m ids table key rows list
    → shown_at key shelf ≡ or_else (shown_at key (seen_rows m ids rows)) (head_of (versions_in key list))
    → AreNewest (line (base c) table key) (shown_at key shelf) (versions_in key (unlike shelf list))

-- of a key that has no row and no version in the list, nothing is shown, and nothing is older
pub record ShowsNone (rows : List Row) (list : List Moved) (key : List ℕ) : Type 0 where
  pub shown : shown_at key rows ≡ None
  pub older : versions_in key (unlike rows list) ≡ []

abbrev pub NoOthersOpen : Type 0
NoOthersOpen = (m : Marks) (ids : List ℕ) (key : List ℕ) (rows : List Row) (list : List Moved) → shown_at key rows ≡ None → versions_in key list ≡ []
    → ShowsNone (opened_rows (seen_rows m ids rows) list) list key

-- with the rows that are kept alone, the leaf that comes back has the same versions of the key
abbrev pub OpenedRowsReturn : Type 0
OpenedRowsReturn = (seen : List Row) (list : List Moved) (key : List ℕ) → Descends Older (versions_in key list)
    → with_shown seen (λ k. versions_in k (unlike seen list)) key ≡ with_shown (opened_rows seen list) (λ k. versions_in k (unlike (opened_rows seen list) list)) key

-- where each row is kept, and each key of the list has one, they are the rows of the block
abbrev pub WholeRowsOpen : Type 0
WholeRowsOpen = (m : Marks) (ids : List ℕ) (rows : List Row) (list : List Moved) → AllByRecursion (λ (r : Row). IsTrue (is_seen_row m ids r)) rows → AllByRecursion (λ (v : Moved). shows rows v.key ≡ true) list
    → opened_rows (seen_rows m ids rows) list ≡ rows
