-- Rows of a leaf with records of a history among them fit a leaf.
use Rattle.std.proofs.Common.{◌≡◌, ℕ, List, [], ◌∷◌, Option, None, sym, subst, inl, inr}
use Rattle.std.specs.Prelude.{filter}
use Rattle.std.specs.List.{AllByRecursion}
use Rattle.std.specs.declared.cmp.Ordering.{Ordering}
use Rattle.std.specs.declared.cmp.Ordering.TheVariants.{Less, Equal, Greater}
use Rattle.row_page.specs.Rows.{Row, RowFits, key_most}
use Rattle.leaf_rows.specs.Rows.{AreFit}
use Rattle.leaf_rows.specs.declared.marks.Marks.{Marks}
use Rattle.stored.specs.HistoryTree.{HistoryBears, HistoryEntry, HistoryRecord, RecordFits, history_kind, history_root_entry}
use Rattle.stored.specs.Records.{Root}
use Rattle.stored.specs.Tree.{AllBear, bottom, join}
use Rattle.recover_open.specs.Bare.{marks_of}
use Rattle.hist_open.specs.declared.history.History.{History}
use Rattle.hist_open.specs.Trees.{IsRead}
use Rattle.device_read.specs.Merging.{merged}
use Rattle.device_read.specs.Newest.{KeysClimb, by_order, is_kept_record, is_of_leaf, key_cmp, newer, newest_from, newest_in, newest_kept, of_leaf, row_of, rows_of}
use Rattle.device_read.specs.Readers.{Held, IsReaderOf}
use Rattle.device_read.proofs.Lists.{all_both}
use Rattle.device_read.proofs.Merged.{all_merged, merged_ascends}
use Rattle.device_read.proofs.NewestRecords.{newer_of, some_of}
use Rattle.device_read.proofs.Parts.{leaf_ascends}

abbrev Fits : Row → Type 0
Fits r = RowFits [] key_most r

abbrev AllFit : List HistoryRecord → Type 0
AllFit records = AllByRecursion (λ (r : HistoryRecord). Fits (row_of r)) records

-- ---- the newest of records that fit

newer_fits : (r s : HistoryRecord) → Fits (row_of r) → Fits (row_of s) → Fits (row_of (newer r s))
newer_fits r s own other = elim (newer_of r s) [
  | inl is ↦ subst (λ (x : HistoryRecord). Fits (row_of x)) (sym is) own
  | inr is ↦ subst (λ (x : HistoryRecord). Fits (row_of x)) (sym is) other
]

each_fits : (o : Ordering) (less same greater : List HistoryRecord) → AllFit less → AllFit same → AllFit greater → AllFit (by_order o less same greater)
each_fits Less less same greater a b c = a
each_fits Equal less same greater a b c = b
each_fits Greater less same greater a b c = c

from_fits : (r : HistoryRecord) (records : List HistoryRecord) → Fits (row_of r) → AllFit records → AllFit (newest_from r records)
from_fits r [] own all = (own, tt)
from_fits r (s ∷ records) own all =
    each_fits (key_cmp r s) (r ∷ newest_from s records) (newest_from (newer r s) records) (newest_from r records) (own, from_fits s records all.0 all.1) (from_fits (newer r s) records (newer_fits r s own all.0) all.1)
    (from_fits r records own all.1)

newest_fits : (records : List HistoryRecord) → AllFit records → AllFit (newest_in records)
newest_fits [] all = tt
newest_fits (r ∷ records) all = from_fits r records all.0 all.1

-- ---- those of a history that was read

own_fits : (records : List HistoryRecord) → AllByRecursion (λ (r : HistoryRecord). RecordFits r) records → AllFit records
own_fits [] all = tt
own_fits (r ∷ records) all = (all.0.row, own_fits records all.1)

leaf_fits : (e : HistoryEntry) (p : List HistoryRecord) → HistoryBears e p → AllFit p
leaf_fits e p bears = elim bears.leaf [
  | inl none ↦ subst (λ (l : List HistoryRecord). AllFit l) (sym none.1) tt
  | inr are ↦ own_fits p are.1.fit
]

leaves_fit : (es : List HistoryEntry) (leaves : List (List HistoryRecord)) → AllBear history_kind es leaves → AllFit (join leaves)
leaves_fit [] [] bear = tt
leaves_fit [] (p ∷ leaves) bear = absurd bear
leaves_fit (e ∷ es) [] bear = absurd bear
leaves_fit (e ∷ es) (p ∷ leaves) bear = all_both (λ (r : HistoryRecord). Fits (row_of r)) p (join leaves) (leaf_fits e p bear.0) (leaves_fit es leaves bear.1)

history_fits : (bytes : List ℕ) (root : Root) (h : History) → IsRead bytes root h → AllFit h.records.items
history_fits bytes root h read = subst (λ (l : List HistoryRecord). AllFit l) (sym read.all) (leaves_fit (bottom (history_root_entry root.link ∷ []) read.tree.layers) read.tree.leaves read.has.is.bear)

kept_fits : (m : Marks) (ids : List ℕ) (records : List HistoryRecord) → AllFit records → AllFit (newest_kept m ids records)
kept_fits m ids records all = newest_fits (filter (is_kept_record m ids) records) (some_of (λ (r : HistoryRecord). Fits (row_of r)) (is_kept_record m ids) records all)

reader_fits : (bytes : List ℕ) (h : Held) → IsReaderOf bytes h → AllFit h.newest
reader_fits bytes h (inl (blank, none)) = subst (λ (l : List HistoryRecord). AllFit l) (sym none.2) tt
reader_fits bytes h (inr (place, w, surveyed, same)) = subst (λ (x : Held). AllFit x.newest) (sym same) (kept_fits (marks_of w.record) w.record.snapshot.ids w.history.records.items (history_fits bytes w.record.history w.history surveyed.history))

-- ---- the rows of a leaf

rows_fit : (records : List HistoryRecord) → AllFit records → AllByRecursion (λ (r : Row). Fits r) (rows_of records)
rows_fit [] all = tt
rows_fit (r ∷ records) all = (all.0, rows_fit records all.1)

-- where a reader was opened on an honest disk, the rows of a leaf fit, whatever disk that is read from
pub page_fits : (bytes : List ℕ) (h : Held) (table : ℕ) (low : List ℕ) (next : Option (List ℕ)) (newest : List HistoryRecord) (page : List Row) → IsReaderOf bytes h → newest ≡ h.newest → KeysClimb newest → AreFit page → AreFit (merged page (rows_of (of_leaf table low next newest)))
page_fits bytes h table low next newest page reader same climb fit = record {
  fit = all_merged (λ (r : Row). Fits r) page (rows_of (of_leaf table low next newest)) fit.fit
      (rows_fit (of_leaf table low next newest) (some_of (λ (r : HistoryRecord). Fits (row_of r)) (is_of_leaf table low next) newest (subst (λ (l : List HistoryRecord). AllFit l) (sym same) (reader_fits bytes h reader))));
  ascend = merged_ascends None page (rows_of (of_leaf table low next newest)) fit.ascend (leaf_ascends table low next newest climb);
}
