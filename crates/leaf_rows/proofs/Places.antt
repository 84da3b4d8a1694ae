-- A row behind rows that ascend, and the first of them.
use Rattle.std.proofs.Common.{ℕ, List, [], ◌∷◌, ◌++◌, Option, Some, None, refl}
use Rattle.std.specs.List.{AllByRecursion}
use Rattle.row_page.specs.Rows.{Row, Ascends, RowFits, key_most}
use Rattle.leaf_rows.specs.Rows.{AreFit, IsAboveLast}

fit_behind : (rows : List Row) (r : Row) → RowFits [] key_most r → AllByRecursion (λ (q : Row). RowFits [] key_most q) rows → AllByRecursion (λ (q : Row). RowFits [] key_most q) (rows ++ r ∷ [])
fit_behind [] r new fit = (new, tt)
fit_behind (q ∷ rows) r new fit = (fit.0, fit_behind rows r new fit.1)

ascend_behind : (before : Option (List ℕ)) (first : Row) (rows : List Row) (r : Row) → Ascends before (first ∷ rows) → IsAboveLast r.0 (first ∷ rows) → Ascends before ((first ∷ rows) ++ r ∷ [])
ascend_behind before first [] r ascend above = (ascend.0, (above, tt))
ascend_behind before first (q ∷ rows) r ascend above = (ascend.0, ascend_behind (Some first.0) q rows r ascend.1 above)

ascend_last : (rows : List Row) (r : Row) → Ascends None rows → IsAboveLast r.0 rows → Ascends None (rows ++ r ∷ [])
ascend_last [] r ascend above = (refl, tt)
ascend_last (q ∷ rows) r ascend above = ascend_behind None q rows r ascend above

pub push_fit : (rows : List Row) (r : Row) → RowFits [] key_most r → IsAboveLast r.0 rows → AreFit rows → AreFit (rows ++ r ∷ [])
push_fit rows r new above are = record { fit = fit_behind rows r new are.fit; ascend = ascend_last rows r are.ascend above }

-- and what a row behind all others is
above_behind : (before : Option (List ℕ)) (rows : List Row) (r : Row) → Ascends before (rows ++ r ∷ []) → IsAboveLast r.0 rows
above_behind before [] r ascend = tt
above_behind before (q ∷ []) r ascend = ascend.1.0
above_behind before (q ∷ (p ∷ rows)) r ascend = above_behind (Some q.0) (p ∷ rows) r ascend.1

last_fits : (rows : List Row) (r : Row) → AllByRecursion (λ (q : Row). RowFits [] key_most q) (rows ++ r ∷ []) → RowFits [] key_most r
last_fits [] r fit = fit.0
last_fits (q ∷ rows) r fit = last_fits rows r fit.1

pub fit_last : (rows : List Row) (r : Row) → AreFit (rows ++ r ∷ []) → RowFits [] key_most r × IsAboveLast r.0 rows
fit_last rows r are = (last_fits rows r are.fit, above_behind None rows r are.ascend)

fit_front : (rows others : List Row) → AllByRecursion (λ (q : Row). RowFits [] key_most q) (rows ++ others) → AllByRecursion (λ (q : Row). RowFits [] key_most q) rows
fit_front [] others fit = tt
fit_front (q ∷ rows) others fit = (fit.0, fit_front rows others fit.1)

ascend_front : (before : Option (List ℕ)) (rows others : List Row) → Ascends before (rows ++ others) → Ascends before rows
ascend_front before [] others ascend = tt
ascend_front before (q ∷ rows) others ascend = (ascend.0, ascend_front (Some q.0) rows others ascend.1)

-- the first of some rows
pub front_fit : (rows others : List Row) → AreFit (rows ++ others) → AreFit rows
front_fit rows others are = record { fit = fit_front rows others are.fit; ascend = ascend_front None rows others are.ascend }
