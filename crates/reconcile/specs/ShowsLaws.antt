-- What is told by what rows show.
use Rattle.std.specs.Prelude.{◌≡◌, ℕ, List}
use Rattle.row_page.specs.Rows.{Row}
use Rattle.leaf_rows.specs.Rows.{AreFit}
use Rattle.reconcile.specs.Shows.{shown_at}

-- rows in order are told by what they show
abbrev pub RowsAreOne : Type 0
RowsAreOne = (rows others : List Row) → AreFit rows → AreFit others → ((key : List ℕ) → shown_at key rows ≡ shown_at key others) → rows ≡ others
