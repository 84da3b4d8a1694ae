-- Images and moved versions as they are made.
use Rattle.std.specs.Prelude.{◌≡◌, ◌≤◌, ℕ, List, [], ◌∷◌, ◌++◌, map, drop, option_map, Option, Some, None}
use Rattle.std.specs.Borrow.{Bor}
use Rattle.std.specs.Option.{option_to_list}
use Rattle.row_page.specs.Greatest.{greatest_in, most_in, names_of, durables_of}
use Rattle.row_page.specs.Rows.{Row}
use Rattle.row_page.specs.Views.{row_seen}
use Rattle.row_page.specs.Writing.{Wrote}
use Rattle.leaf_rows.specs.Rows.{image_length}
use Rattle.leaf_chains.specs.declared.slot.KeyChain.{KeyChain}
use Rattle.reconcile.specs.declared.held.Held.{Held}
use Rattle.reconcile.specs.declared.image.Image.{Image}
use Rattle.reconcile.specs.declared.images.Images.{Images}
use Rattle.reconcile.specs.declared.open_image.OpenImage.{OpenImage}
use Rattle.reconcile.specs.declared.live.Rule.{Rule}
use Rattle.reconcile.specs.declared.made.Making.{Making}
use Rattle.reconcile.specs.Images.{Begins, IsLow, SpellsRows}
use Rattle.reconcile.specs.Merged.{all_gone, all_kept, chain_rows, moved_row}

-- ---- what is left of a key

abbrev pub updates_left : Option (Bor KeyChain) → ℕ → List Row
updates_left None place = []
updates_left (Some there) place = drop place (chain_rows there.now.key there.now.chain)

abbrev pub left : Held → List Row
left h = updates_left h.there h.place ++ option_to_list (option_map row_seen h.cell)

-- ---- images

-- the image that is open has these rows, and they fit
pub record HasRows (o : OpenImage) (rows : List Row) : Type 0 where
  pub wrote : Wrote o.writer rows
  pub limit : o.writer.limit ≡ 32768
  pub small : image_length rows ≤ 32768
  pub low : IsLow o.low rows
  pub greatest : o.greatest ≡ greatest_in (names_of rows)
  pub durable : o.durable ≡ most_in (durables_of rows)

-- the rows of the image that is open, none where none is
abbrev pub OpenHas : Option OpenImage → List Row → Type 0
OpenHas None rows = rows ≡ []
OpenHas (Some o) rows = HasRows o rows

-- the images have the first of the rows, and last has the others
abbrev pub Behind : List Image → List Row → List Row → Type 0
Behind [] last rows = rows ≡ last
Behind (image ∷ images) last rows = Begins image (Behind images last) rows

-- an image is open where there are rows
abbrev pub HasBegun : Option OpenImage → List Image → Type 0
HasBegun None done = done ≡ []
HasBegun (Some o) done = Unit {0}

-- the rows are in the images that are done, and then in the one that is open
pub record HaveRows (images : Images) (rows : List Row) : Type 0 where
  pub last : List Row
  pub opened : OpenHas images.opened last
  pub begun : HasBegun images.opened images.done.items
  pub behind : Behind images.done.items last rows

-- the image that was open, where one was, is behind the others
abbrev pub IsClosed : List Image → Option OpenImage → List Row → List Image → Type 0
IsClosed done None rows now = now ≡ done
IsClosed done (Some o) rows now = (image : Image) × SpellsRows image rows × (now ≡ done ++ image ∷ [])

-- ---- both

-- what is made of these lists
pub record HasMade (rule : Rule) (m : Making) (lists : List (List Row)) : Type 0 where
  pub rows : HaveRows m.images (all_kept rule.live lists)
  pub moves : m.moved.items ≡ map moved_row (all_gone rule.live rule.pin rule.floor lists)

-- what is made of all lists but those that are left
pub record MadeTo (rule : Rule) (m : Making) (rest all : List (List Row)) : Type 0 where
  pub lists : List (List Row)
  pub made : HasMade rule m lists
  pub whole : lists ++ rest ≡ all
