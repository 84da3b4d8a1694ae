-- Rows as the images that are written.
use Rattle.std.specs.Prelude.{◌≡◌, ◌<◌, ℕ, List, [], ◌∷◌, ◌++◌, Some, slice_get}
use Rattle.row_page.specs.Rows.{Row, IsPage}
use Rattle.row_page.specs.Greatest.{greatest_in, most_in, names_of, durables_of}
use Rattle.leaf_rows.specs.Rows.{image_length}
use Rattle.reconcile.specs.declared.image.Image.{Image}

-- the key of the first row
pub record IsLow (key : List ℕ) (rows : List Row) : Type 0 where
  pub row : Row
  pub first : slice_get rows 0 ≡ Some row
  pub is : key ≡ row.0

-- the image's block spells these rows, of which there are some, and these are their least key, their greatest name and durable stamp
pub record SpellsRows (image : Image) (rows : List Row) : Type 0 where
  pub low : IsLow image.low rows
  pub page : IsPage image.block.items rows
  pub greatest : image.greatest ≡ greatest_in (names_of rows)
  pub durable : image.durable ≡ most_in (durables_of rows)

-- the first of the others had no room behind these rows
abbrev pub IsFull : List Row → List Row → Type 0
IsFull rows others = (row : Row) → slice_get others 0 ≡ Some row → 32768 < image_length (rows ++ row ∷ [])

-- the rows begin with those of the first image, which is full, and the others are those of the other images
pub record Begins (image : Image) (Others : List Row → Type 0) (rows : List Row) : Type 0 where
  pub front : List Row
  pub others : List Row
  pub spells : SpellsRows image front
  pub full : IsFull front others
  pub go_on : Others others
  pub whole : rows ≡ front ++ others

-- the images have the rows, one behind the other, each as many as it has room for; no image where there are no rows
abbrev pub AreImages : List Image → List Row → Type 0
AreImages [] rows = rows ≡ []
AreImages (image ∷ images) rows = Begins image (AreImages images) rows
