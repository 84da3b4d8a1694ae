-- Some of the rows.
use Rattle.std.proofs.Common.{ℕ, Bool, List, [], ◌∷◌, Option, Some, None, inl, inr}
use Rattle.std.specs.Prelude.{filter}
use Rattle.std.specs.List.{AllByRecursion}
use Rattle.std.proofs.lemmas.Bool.{cases_Bool}
use Rattle.row_page.specs.Rows.{Row, Ascends, RowFits, key_most}
use Rattle.row_page.proofs.Ascending.{ascends_later}
use Rattle.leaf_rows.specs.Rows.{AreFit}

pub fit_filter : (p : Row → Bool) (rows : List Row) → AllByRecursion (λ (r : Row). RowFits [] key_most r) rows → AllByRecursion (λ (r : Row). RowFits [] key_most r) (filter p rows)
fit_filter p [] fit = tt
fit_filter p (r ∷ rows) fit = elim (cases_Bool (p r)) [
  | inl is ↦ rw is (fit.0, fit_filter p rows fit.1)
  | inr isnt ↦ rw isnt (fit_filter p rows fit.1)
]

pub ascend_filter : (p : Row → Bool) (before : Option (List ℕ)) (rows : List Row) → Ascends before rows → Ascends before (filter p rows)
ascend_filter p before [] ascend = tt
ascend_filter p before (r ∷ rows) ascend = elim (cases_Bool (p r)) [
  | inl is ↦ rw is (ascend.0, ascend_filter p (Some r.0) rows ascend.1)
  | inr isnt ↦ rw isnt (ascends_later before r.0 (filter p rows) ascend.0 (ascend_filter p (Some r.0) rows ascend.1))
]

pub filter_fit : (p : Row → Bool) (rows : List Row) → AreFit rows → AreFit (filter p rows)
filter_fit p rows are = record { fit = fit_filter p rows are.fit; ascend = ascend_filter p None rows are.ascend }
