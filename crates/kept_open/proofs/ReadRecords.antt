-- The records of a history that was read fit.
use Rattle.std.proofs.Common.{◌≡◌, ◌⊎◌, List, [], ◌∷◌, sym, subst, inl, inr}
use Rattle.std.specs.List.{AllByRecursion}
use Rattle.stored.specs.HistoryTree.{AreRecords, HistoryBears, HistoryEntry, HistoryRecord, RecordFits, history_kind, history_root_entry}
use Rattle.stored.specs.Tree.{AllBear, bottom, join}
use Rattle.hist_pages.proofs.Members.{all_both}
use Rattle.kept_open.specs.Laws.{IsFit, ReadHistoriesFit}

own : (e : HistoryEntry) (records : List HistoryRecord) → HistoryBears e records → AllByRecursion (λ (r : HistoryRecord). RecordFits r) records
own e records bears = elim bears.leaf [
  | inl none ↦ subst (λ (l : List HistoryRecord). AllByRecursion (λ (r : HistoryRecord). RecordFits r) l) (sym none.1) tt
  | inr are ↦ are.1.fit
]

fits_of : (es : List HistoryEntry) (leaves : List (List HistoryRecord)) → AllBear history_kind es leaves → AllByRecursion (λ (r : HistoryRecord). RecordFits r) (join leaves)
fits_of [] [] bear = tt
fits_of [] (records ∷ leaves) bear = absurd bear
fits_of (e ∷ es) [] bear = absurd bear
fits_of (e ∷ es) (records ∷ leaves) bear = all_both (λ (r : HistoryRecord). RecordFits r) records (join leaves) (own e records bear.0) (fits_of es leaves bear.1)

pub read_fit : ReadHistoriesFit
read_fit bytes root h read =
    let is = read.has.is in
    subst (λ (l : List HistoryRecord). IsFit l) (sym read.all) (record {
      fit = fits_of (bottom (history_root_entry root.link ∷ []) read.tree.layers) read.tree.leaves is.bear;
      once = is.parts.once;
    })
