-- What is captured of a leaf, by its rows.
use Rattle.std.specs.Prelude.{◌≡◌, ◌≢◌, ◌<◌, List, []}
use Rattle.row_page.specs.Rows.{Row, IsPage}
use Rattle.row_page.specs.Greatest.{greatest_in, most_in, names_of, durables_of}
use Rattle.leaf_rows.specs.Rows.{image_length}
use Rattle.reconcile.specs.declared.leaf.Captured.{Captured}
use Rattle.reconcile.specs.declared.leaf.Captured.TheVariants.{Nothing, Leaf, TooLarge}
use Rattle.reconcile.specs.declared.leaf.CapturedLeaf.{CapturedLeaf}

-- the block spells the rows, of which there are some, and these are their greatest name and durable stamp
pub record SpellsRows (leaf : CapturedLeaf) (rows : List Row) : Type 0 where
  pub some : rows ≢ []
  pub page : IsPage leaf.block.items rows
  pub greatest : leaf.greatest ≡ greatest_in (names_of rows)
  pub durable : leaf.durable ≡ most_in (durables_of rows)

-- no rows, or those that the leaf spells, or more than one leaf has room for
abbrev pub HasRows : Captured → List Row → Type 0
HasRows Nothing rows = rows ≡ []
HasRows (Leaf leaf) rows = SpellsRows leaf rows
HasRows TooLarge rows = 32768 < image_length rows
