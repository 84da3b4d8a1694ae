-- Rows that lie one behind the other among the bytes of a batch.
use Rattle.std.specs.Prelude.{◌≡◌, ◌≤◌, ◌++◌, ◌∷◌, ℕ, List, [], map, Option, Some, None, slice_range}
use Rattle.std.specs.List.{AllByRecursion}
use Rattle.engine.specs.declared.batch.Bounds.{Bounds}
use Rattle.engine.specs.declared.batch.LentRow.{LentRow}

abbrev pub row_in : List ℕ → Bounds → List ℕ × List ℕ
row_in bytes b = (slice_range bytes b.key b.value, slice_range bytes b.value b.end)

abbrev pub rows_in : List ℕ → List Bounds → List (List ℕ × List ℕ)
rows_in bytes bounds = map (row_in bytes) bounds

-- so many bytes hold the row
pub record LiesIn (long : ℕ) (b : Bounds) : Type 0 where
  pub key : b.key ≤ b.value
  pub value : b.value ≤ b.end
  pub end : b.end ≤ long

abbrev pub LieIn : ℕ → List Bounds → Type 0
LieIn long bounds = AllByRecursion (LiesIn long) bounds

abbrev pub lent_row : LentRow → List ℕ × List ℕ
lent_row r = (r.key.now, r.value.now)

-- the last one, where there is one
abbrev pub EndsIn : List (List ℕ × List ℕ) → Option (List ℕ × List ℕ) → Type 0
EndsIn rows None = rows ≡ []
EndsIn rows (Some row) = (front : List (List ℕ × List ℕ)) × (rows ≡ front ++ row ∷ [])
