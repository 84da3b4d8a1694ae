-- The rows of a leaf, as it comes back after an opening.
use Rattle.std.specs.Prelude.{ℕ, Bool, List, [], ◌∷◌, ◌++◌, is_some, if◌then◌else◌}
use Rattle.row_page.specs.Rows.{Row}
use Rattle.reconcile.specs.Shows.{shown_at}
use Rattle.reconcile.specs.Cells.{cell_version}
use Rattle.reconcile.specs.declared.image.Moved.{Moved}

-- the rows show a version of the key
abbrev pub shows : List Row → List ℕ → Bool
shows rows key = is_some (shown_at key rows)

abbrev pub row_of : Moved → Row
row_of m = (m.key, cell_version m.version)

-- of these versions the first of each key that the rows do not show, as rows
abbrev pub first_rows : List Row → List Moved → List Row
first_rows rows [] = []
first_rows rows (m ∷ list) = if shows rows m.key then first_rows rows list else row_of m ∷ first_rows (row_of m ∷ rows) list

-- the rows that an opening keeps of a leaf's own, with those first versions
abbrev pub opened_rows : List Row → List Moved → List Row
opened_rows seen list = seen ++ first_rows seen list
