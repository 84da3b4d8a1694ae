-- The greatest of names and of stamps.
use Rattle.std.specs.Prelude.{ℕ, max, List, [], ◌∷◌, map}
use Rattle.stamp.specs.declared.name.Name.{Name}
use Rattle.stamp.specs.Order.{later}
use Rattle.row_page.specs.Rows.{Row}

-- no name
abbrev pub no_name : Name
no_name = record { run = 0; id = 0 }

abbrev pub greatest_in : List Name → Name
greatest_in [] = no_name
greatest_in (x ∷ xs) = later x (greatest_in xs)

abbrev pub most_in : List ℕ → ℕ
most_in [] = 0
most_in (x ∷ xs) = max x (most_in xs)

-- the names and the durable stamps of the rows' versions
abbrev pub names_of : List Row → List Name
names_of rows = map {A = Row} (λ r. r.1.window.name) rows

abbrev pub durables_of : List Row → List ℕ
durables_of rows = map {A = Row} (λ r. r.1.window.durable) rows
