-- Reading a leaf from left to right.
use Rattle.std.specs.Prelude.{ℕ, zero, suc, ◌^◌, Bool, ◌&&◌, ◌==◌, nat_le, nat_lt, List, [], ◌∷◌, ◌++◌, length, Option, Some, None, if◌then◌else◌}
use Rattle.std.specs.Int.{w8, w16, w32, w64}
use Rattle.stamp.specs.declared.version.Window.{Window}
use Rattle.le_codec.specs.Fields.{◌>>=◌, number_at, slice_at}
use Rattle.le_codec.specs.Combine.{then_at, as_at, try_at, chain_at}
use Rattle.row_page.specs.declared.change.CellChange.TheVariants.{Put, Remove}
use Rattle.row_page.specs.Changes.{PageChange}
use Rattle.row_page.specs.Rows.{Row, Raw, value_of, comes_after, key_of, key_most}

abbrev pub Numbers : Type 0
Numbers = ℕ × (ℕ × (ℕ × ℕ))

abbrev pub window_of : Numbers → Window
window_of p = record { name = record { run = p.0; id = p.1.0 }; commit = p.1.1.0; durable = p.1.1.1 }

unfoldable pub window_at : List ℕ → Option (Window × List ℕ)
window_at = as_at window_of (then_at (number_at w64) (λ run. then_at (number_at w64) (λ id. then_at (number_at w64) (λ commit. number_at w64))))

-- the parts of a cell: the key's length, the code, the value's length, the window, key and value
abbrev pub Parts : Type 0
Parts = ℕ × (ℕ × (ℕ × (Window × (List ℕ × List ℕ))))

abbrev pub raw_of : Parts → Option Raw
raw_of p = Some (record { key = p.1.1.1.1.0; code = p.1.0; window = p.1.1.1.0; value = p.1.1.1.1.1 })

unfoldable pub raw_at : List ℕ → Option (Raw × List ℕ)
raw_at = try_at raw_of (then_at (number_at w16) (λ k. then_at (number_at w8) (λ c. then_at (number_at w32) (λ v. then_at window_at (λ w. then_at (slice_at k) (λ key. slice_at v))))))

-- the change that a code and a value stand for
abbrev pub change_of : ℕ → List ℕ → Option PageChange
change_of (suc zero) value = Some (Put value)
change_of (suc (suc zero)) [] = Some Remove
change_of (suc (suc zero)) (b ∷ bs) = None
change_of zero value = None
change_of (suc (suc (suc n))) value = None

abbrev pub is_number : ℕ → Bool
is_number n = nat_le 1 n && nat_lt n (2 ^ 62)

abbrev pub window_fits : Window → Bool
window_fits w = is_number w.name.run && is_number w.name.id && nat_le w.commit w.durable && nat_lt w.durable (2 ^ 64)

abbrev pub row_fits : ℕ → Row → Bool
row_fits most r = nat_le (length r.0) most && nat_le (length (value_of r.1.change)) 16384 && window_fits r.1.window

-- the row of what was read below a front
abbrev pub row_under : List ℕ → ℕ → Raw → Option Row
row_under front most x = do
  change ← change_of x.code x.value
  if row_fits most (front ++ x.key, record { window = x.window; change = change }) then Some (front ++ x.key, record { window = x.window; change = change }) else None

-- a cell below a front
unfoldable pub cell_at : List ℕ → ℕ → List ℕ → Option (Row × List ℕ)
cell_at front most = try_at (row_under front most) raw_at

-- the row, where its key comes after the one before
abbrev pub row_after : Option (List ℕ) → Row → Option Row
row_after before r = if comes_after before r.0 then Some r else None

-- a cell below a front that comes after a key
unfoldable pub row_at : List ℕ → ℕ → Option (List ℕ) → List ℕ → Option (Row × List ℕ)
row_at front most before = try_at (row_after before) (cell_at front most)

-- so many rows of a page, after one before
abbrev pub rows_at : List ℕ → ℕ → ℕ → Option (List ℕ) → List ℕ → Option (List Row × List ℕ)
rows_at front most count before bytes = chain_at (row_at front most) key_of count before bytes

-- ---- a leaf

-- so many rows of a leaf, and what is left
abbrev pub read_rows : ℕ → List ℕ → Option (List Row × List ℕ)
read_rows count text = rows_at [] key_most count None text

abbrev pub rows_of : Option (List Row × List ℕ) → List Row
rows_of None = []
rows_of (Some x) = x.0

abbrev pub rows_in : ℕ → List ℕ → List Row
rows_in count text = rows_of (read_rows count text)

-- the rows of a leaf whose image has this count, level and text
abbrev pub leaf_at : ℕ → ℕ → List ℕ → Option (List Row)
leaf_at count level text = do
  rows ← read_rows count text
  if (level == 0) && (length rows.1 == 0) && nat_le (length text) 32752 then Some rows.0 else None
