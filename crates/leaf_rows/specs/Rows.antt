-- Rows in the order of their keys, as a map from keys to versions.
use Rattle.std.specs.Prelude.{◌≡◌, ℕ, ◌+◌, List, [], ◌∷◌, length, true, Option, Some, None, bytes_eq, if◌then◌else◌}
use Rattle.std.specs.List.{AllByRecursion}
use Rattle.stamp.specs.declared.version.Version.{Version}
use Rattle.row_page.specs.Changes.{PageChange}
use Rattle.row_page.specs.Rows.{Row, RowFits, Ascends, key_most, is_below, cells}

-- each row fits a leaf, and the keys ascend; the image may be longer than a leaf's
pub record AreFit (rows : List Row) : Type 0 where
  pub fit : AllByRecursion (λ (r : Row). RowFits [] key_most r) rows
  pub ascend : Ascends None rows

-- the key is above the last row's, where there is one
abbrev pub IsAboveLast : List ℕ → List Row → Type 0
IsAboveLast key [] = Unit {0}
IsAboveLast key (r ∷ []) = is_below r.0 key ≡ true
IsAboveLast key (r ∷ (q ∷ rows)) = IsAboveLast key (q ∷ rows)

-- the version of a key
abbrev pub version_at : List ℕ → List Row → Option (Version PageChange)
version_at key [] = None
version_at key (r ∷ rows) = if bytes_eq r.0 key then Some r.1 else version_at key rows

-- the bytes of their image, with its header
abbrev pub image_length : List Row → ℕ
image_length rows = 16 + length (cells rows)
