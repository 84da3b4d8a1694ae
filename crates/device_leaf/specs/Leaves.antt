-- The leaf of a table on a device.
use Rattle.std.specs.Prelude.{ℕ, List, [], ◌∷◌, map}
use Rattle.std.specs.List.{AllByRecursion}
use Rattle.device_layout.specs.declared.link.Link.{Link}
use Rattle.row_page.specs.Rows.{Row, IsPage}
use Rattle.stored.specs.Blocks.{Block, IsAddressed, Holds}
use Rattle.stored.specs.Links.{SaysOf}
use Rattle.stored.specs.Tree.{leaf_blocks}
use Rattle.stored.specs.TableTree.{table_kind, Bears, root_entry}

-- the blocks of a leaf: one, or none where it is stored nowhere
abbrev pub blocks_at : Link → List Row → List Block
blocks_at link rows = leaf_blocks table_kind (root_entry link ∷ []) (rows ∷ [])

-- the device has a leaf of these rows where the link leads
pub record LeafIs (bytes : List ℕ) (link : Link) (rows : List Row) : Type 0 where
  pub bears : Bears (root_entry link) rows
  pub addressed : AllByRecursion (λ (b : Block). IsAddressed b) (blocks_at link rows)
  pub holds : Holds bytes (blocks_at link rows)

-- no rows make it such a leaf
abbrev pub NoLeaf : List ℕ → Link → Type 0
NoLeaf bytes link = (rows : List Row) → LeafIs bytes link rows → ⊥

-- the block is that of a leaf of these rows, of which the link says the greatest
pub record PageIs (block : List ℕ) (link : Link) (rows : List Row) : Type 0 where
  pub page : IsPage block rows
  pub says : SaysOf link (map (λ (r : Row). r.1.window.name) rows) (map (λ (r : Row). r.1.window.durable) rows)
