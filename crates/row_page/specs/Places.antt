-- The rows of a leaf by where their cells begin, in bytes behind the header.
use Rattle.std.specs.Prelude.{◌≡◌, ℕ, ◌≤◌, true, false, List, [], length, take, drop, map, Option, Some, None}
use Rattle.std.specs.List.{AllByRecursion}
use Rattle.stamp.specs.declared.name.Name.{Name}
use Rattle.row_page.specs.declared.change.CellChange.TheVariants.{Remove}
use Rattle.row_page.specs.Rows.{Row, key_most, is_below, Ascends}
use Rattle.row_page.specs.Reading.{cell_at}
use Rattle.row_page.specs.Greatest.{no_name, greatest_in, most_in, names_of, durables_of}

-- stands for a row where no cell begins
abbrev pub no_row : Row
no_row = ([], record { window = record { name = no_name; commit = 0; durable = 0 }; change = Remove })

abbrev pub row_read : Option (Row × List ℕ) → Row
row_read None = no_row
row_read (Some x) = x.0

-- the row whose cell begins there
abbrev pub row_from : List ℕ → ℕ → Row
row_from text place = row_read (cell_at [] key_most (drop place text))

abbrev pub rows_from : List ℕ → List ℕ → List Row
rows_from text places = map (row_from text) places

-- a cell begins there
pub record CellBegins (text : List ℕ) (place : ℕ) : Type 0 where
  pub row : Row
  pub rest : List ℕ
  pub is : cell_at [] key_most (drop place text) ≡ Some (row, rest)

-- cells begin at the places, with keys that ascend, and these are the greatest name and durable stamp
pub record AreFound (text places : List ℕ) (name : Name) (stamp : ℕ) : Type 0 where
  pub begin : AllByRecursion (λ (place : ℕ). CellBegins text place) places
  pub ascend : Ascends None (rows_from text places)
  pub greatest : name ≡ greatest_in (names_of (rows_from text places))
  pub durable : stamp ≡ most_in (durables_of (rows_from text places))

-- the first i rows are below the key, and none of the others is
pub record FirstNotBelow (rows : List Row) (key : List ℕ) (i : ℕ) : Type 0 where
  pub within : i ≤ length rows
  pub below : AllByRecursion (λ (r : Row). is_below r.0 key ≡ true) (take i rows)
  pub above : AllByRecursion (λ (r : Row). is_below r.0 key ≡ false) (drop i rows)
