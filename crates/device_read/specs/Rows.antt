-- The rows of a table, as its pages and as the machine's history have them.
use Rattle.std.specs.Prelude.{◌≡◌, ◌↔◌, ℕ, true, List, [], ◌∷◌, length, Option, Some}
use Rattle.std.specs.List.{flat_map}
use Rattle.kv_model.specs.Content.{Content, start}
use Rattle.kv_model.specs.Holds.{Member}
use Rattle.kv_model.specs.History.{Table, tables, named, value}
use Rattle.kv_model.specs.Rows.{Way, comes_after}
use Rattle.catalog.specs.Known.{NamesAscend}
use Rattle.row_page.specs.declared.change.CellChange.TheVariants.{Put, Remove}
use Rattle.row_page.specs.Changes.{PageChange}
use Rattle.row_page.specs.Rows.{Row}

-- a key and a value
abbrev pub KeyValue : Type 0
KeyValue = List ℕ × List ℕ

-- ---- the rows of pages

-- what a row says of its key: nothing where the key was removed
abbrev pub put_as : List ℕ → PageChange → List KeyValue
put_as key (Put value) = (key, value) ∷ []
put_as key Remove = []

abbrev pub put_row : Row → List KeyValue
put_row r = put_as r.0 r.1.change

-- the keys of a page that were not removed, with their values
abbrev pub put_rows : List Row → List KeyValue
put_rows page = flat_map put_row page

-- those of pages, page after page
abbrev pub rows_in : List (List Row) → List KeyValue
rows_in pages = flat_map put_rows pages

-- ---- in the machine that an opening makes

-- the value of a key, None where it is absent
abbrev pub value_in : Content → ℕ → List ℕ → Option (List ℕ)
value_in c number key = value (start c).history (length (start c).history) 0 number key

-- each key comes before those behind it, on this way
abbrev pub InOrder : Way → List KeyValue → Type 0
InOrder way [] = Unit {0}
InOrder way (row ∷ rows) = ((later : KeyValue) → Member later rows → comes_after way row.0 later.0 ≡ true) × InOrder way rows

-- all rows of the table of this number: each key that is not absent with its value, in order
pub record AreAllRows (way : Way) (c : Content) (number : ℕ) (rows : List KeyValue) : Type 0 where
  pub all : (key v : List ℕ) → Member (key, v) rows ↔ (value_in c number key ≡ Some v)
  pub in_order : InOrder way rows

-- the tables are these, which ascend by name
pub record HasTables (c : Content) (known : List Table) : Type 0 where
  pub named_alike : (name : List ℕ) → named name (tables (start c).history) ≡ named name known
  pub members : (t : Table) → Member t known ↔ Member t (tables (start c).history)
  pub ascend : NamesAscend known
