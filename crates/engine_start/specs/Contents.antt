-- What a device holds, by its tables with all their rows.
use Rattle.std.specs.Prelude.{ℕ, List, [], ◌∷◌, ◌++◌, map}
use Rattle.kv_model.specs.History.{Table, Placed}
use Rattle.kv_model.specs.Content.{Content}
use Rattle.row_page.specs.Rows.{Row}
use Rattle.stored.specs.Stored.{placed_in}
use Rattle.leaf_rows.specs.declared.marks.Marks.{Marks}
use Rattle.leaf_rows.specs.Contents.{kept_rows, seen_rows}

-- a table with its rows
pub record TableLeaf : Type 0 where
  pub table : Table
  -- each key with its newest version
  pub rows : List Row

abbrev pub tables_in : List TableLeaf → List Table
tables_in leaves = map {A = TableLeaf} (λ l. l.table) leaves

-- their rows, table after table
abbrev pub cells_in : List TableLeaf → List Placed
cells_in [] = []
cells_in (l ∷ leaves) = placed_in l.table.number l.rows ++ cells_in leaves

-- tables in this order, each with these rows, and no history; these ids had not ended when the checkpoint started
abbrev pub leaves_content_with : Marks → List ℕ → List TableLeaf → Content
leaves_content_with m ids leaves = record {
  run = m.run;
  oldest = m.oldest;
  stable = m.stable;
  snapshot = record { min = m.min; max = m.max; ids = ids };
  tables = tables_in leaves;
  cells = cells_in leaves;
  records = [];
}

-- the same, with the records of a history
abbrev pub content_with : Marks → List ℕ → List TableLeaf → List Placed → Content
content_with m ids leaves history = record (leaves_content_with m ids leaves) { records = history }

-- without a history, where each id had ended
abbrev pub leaves_content : Marks → List TableLeaf → Content
leaves_content m leaves = leaves_content_with m [] leaves

abbrev pub kept_leaf : Marks → TableLeaf → TableLeaf
kept_leaf m l = record { table = l.table; rows = kept_rows m l.rows }

-- with the rows that an opening keeps, where each id had ended
abbrev pub kept_leaves : Marks → List TableLeaf → List TableLeaf
kept_leaves m leaves = map {A = TableLeaf} (kept_leaf m) leaves

abbrev pub seen_leaf : Marks → List ℕ → TableLeaf → TableLeaf
seen_leaf m ids l = record { table = l.table; rows = seen_rows m ids l.rows }

-- with the rows that an opening keeps, where these ids had not ended
abbrev pub seen_leaves : Marks → List ℕ → List TableLeaf → List TableLeaf
seen_leaves m ids leaves = map {A = TableLeaf} (seen_leaf m ids) leaves
