-- Rows with others among them.
use Rattle.std.specs.Prelude.{ℕ, ◌&&◌, bytes_eq, List, [], ◌∷◌, ◌++◌, Option, Some, None, if◌then◌else◌}
use Rattle.stamp.specs.Order.{is_before}
use Rattle.stamp.specs.declared.version.Version.{Version}
use Rattle.row_page.specs.Rows.{Row, is_below}

-- of two versions of a key the one with the later name
abbrev pub later_of : {C : Type 0} → Option (Version C) → Option (Version C) → Option (Version C)
later_of None o = o
later_of (Some v) None = Some v
later_of (Some v) (Some w) = if is_before v.window.name w.window.name then Some w else Some v

-- the first rows, as long as their keys are below this one, and the others
abbrev pub rows_below : List ℕ → List Row → List Row
rows_below key [] = []
rows_below key (r ∷ rows) = if is_below r.0 key then r ∷ rows_below key rows else []

abbrev pub rows_from : List ℕ → List Row → List Row
rows_from key [] = []
rows_from key (r ∷ rows) = if is_below r.0 key then rows_from key rows else r ∷ rows

-- the row, or the first of these, where that is of its key and has the later name
abbrev pub later_row : Row → List Row → Row
later_row r [] = r
later_row r (s ∷ rows) = if bytes_eq s.0 r.0 && is_before r.1.window.name s.1.window.name then s else r

-- these without the first, where that is of this key
abbrev pub rows_past : List ℕ → List Row → List Row
rows_past key [] = []
rows_past key (r ∷ rows) = if bytes_eq r.0 key then rows else r ∷ rows

-- of rows and others, both in the order of their keys, all in that order: of a key that both have the later version
abbrev pub merged : List Row → List Row → List Row
merged [] others = others
merged (r ∷ rows) others = rows_below r.0 others ++ later_row r (rows_from r.0 others) ∷ merged rows (rows_past r.0 (rows_from r.0 others))
