-- What the types of a leaf stand for, and where a key stands in a list of rows.
use Rattle.std.specs.Prelude.{◌≡◌, ℕ, ◌≤◌, IsTrue, length, take, drop, slice_get, List, Some}
use Rattle.std.specs.List.{AllByRecursion}
use Rattle.row_page.specs.declared.cell.Cell.{Cell}
use Rattle.row_page.specs.Changes.{change_seen}
use Rattle.row_page.specs.Rows.{Row, is_below}

abbrev pub row_seen : Cell → Row
row_seen c = (c.key.now, record { window = c.window; change = change_seen c.change })

-- the i-th row has the key
abbrev pub HasKeyAt : List Row → List ℕ → ℕ → Type 0
HasKeyAt rows key i = (r : Row) × (slice_get rows i ≡ Some r) × (r.0 ≡ key)

-- the key is above the first i rows, and below the others
pub record Splits (rows : List Row) (key : List ℕ) (i : ℕ) : Type 0 where
  pub within : i ≤ length rows
  pub below : AllByRecursion (λ (r : Row). IsTrue (is_below r.0 key)) (take i rows)
  pub above : AllByRecursion (λ (r : Row). IsTrue (is_below key r.0)) (drop i rows)
