-- What a writer of a leaf has written.
use Rattle.std.specs.Prelude.{◌≡◌, ℕ, ◌+◌, List, length}
use Rattle.row_page.specs.Rows.{Row, cell, cells}

pub record Written : Type 0 where
  -- the most bytes that the image may have
  pub limit : ℕ
  -- how many cells
  pub count : ℕ
  -- the cells, one behind another
  pub text : List ℕ

-- these rows, in this order
pub record Wrote (w : Written) (rows : List Row) : Type 0 where
  pub count : w.count ≡ length rows
  pub text : w.text ≡ cells rows

-- the bytes of the image with one row more
abbrev pub size_with : Written → Row → ℕ
size_with w r = 16 + length w.text + length (cell r)
