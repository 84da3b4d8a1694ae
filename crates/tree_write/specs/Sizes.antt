-- The blocks that are written of a tree, and the room that they need.
use Rattle.std.specs.Prelude.{◌≡◌, ◌≢◌, ◌⊎◌, ℕ, ◌+◌, List, [], ◌∷◌, ◌++◌, length, Option, None, Some}
use Rattle.std.specs.Option.{option_to_list}
use Rattle.std.specs.List.{repeat}
use Rattle.extent_list.specs.Space.{Space, Taken, HasNoRoom}
use Rattle.device_layout.specs.declared.link.Link.{Link}
use Rattle.le_codec.specs.Images.{block_size}
use Rattle.row_page.specs.Rows.{Row}
use Rattle.leaf_rows.specs.Rows.{image_length}
use Rattle.stored.specs.Links.{nowhere}
use Rattle.stored.specs.Tree.{Layer}
use Rattle.stored.specs.TableTree.{Entry, TableTree}
use Rattle.device_leaf.specs.Leaves.{LeafIs}

-- ---- room

-- blocks of these sizes have places, one after the other
abbrev pub PlacesAll : Space → ℕ → List ℕ → Space → Type 0
PlacesAll space capacity [] last = last ≡ space
PlacesAll space capacity (size ∷ sizes) last = (next : Space) × (at : ℕ) × Taken space next size capacity at × PlacesAll next capacity sizes last

-- one of them has none
abbrev pub LacksAll : Space → ℕ → List ℕ → Type 0
LacksAll space capacity [] = ⊥
LacksAll space capacity (size ∷ sizes) = HasNoRoom space size capacity ⊎ ((next : Space) × (at : ℕ) × Taken space next size capacity at × LacksAll next capacity sizes)

-- ---- leaves, by place

-- the first of these links, and those behind it; no link leads nowhere
abbrev pub first_link : List Link → Link
first_link [] = nowhere
first_link (link ∷ links) = link

abbrev pub links_behind : List Link → List Link
links_behind [] = []
links_behind (link ∷ links) = links

-- What is written of a leaf with these rows, where the checkpoint before has its leaf there: nothing where that has the same rows, or there are none; else one block.
abbrev pub WritesLeaf : List ℕ → Link → List Row → Option ℕ → Type 0
WritesLeaf bytes link rows None = (rows ≡ []) ⊎ LeafIs bytes link rows
WritesLeaf bytes link rows (Some size) = (rows ≢ []) × (LeafIs bytes link rows → ⊥) × (size ≡ block_size (image_length rows))

-- of these leaves, in turn, where the checkpoint before has those of was
abbrev pub WritesLeaves : List ℕ → List Link → List (List Row) → List ℕ → Type 0
WritesLeaves bytes was [] sizes = sizes ≡ []
WritesLeaves bytes was (rows ∷ leaves) sizes =
    (size : Option ℕ) × (rest : List ℕ) × WritesLeaf bytes (first_link was) rows size × WritesLeaves bytes (links_behind was) leaves rest × (sizes ≡ option_to_list size ++ rest)

-- ---- a tree

-- how many pages there are
abbrev pub page_count : List (Layer Entry) → ℕ
page_count [] = 0
page_count (pages ∷ layers) = length pages + page_count layers

-- so many blocks of an inner page's size
abbrev pub page_sizes : ℕ → List ℕ
page_sizes count = repeat count (4096 ∷ [])

-- what is written of a tree, in turn: of its leaves those that was does not have, then each inner page
pub record WritesTree (bytes : List ℕ) (was : List Link) (t : TableTree) (sizes : List ℕ) : Type 0 where
  pub of_leaves : List ℕ
  pub leaves : WritesLeaves bytes was t.leaves of_leaves
  pub is : sizes ≡ of_leaves ++ page_sizes (page_count t.layers)
