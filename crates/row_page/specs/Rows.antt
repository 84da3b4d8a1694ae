-- The rows of a leaf, and the bytes that stand for them.
use Rattle.std.specs.Prelude.{◌≡◌, ℕ, ◌+◌, ◌<◌, ◌≤◌, ◌^◌, Bool, true, IsTrue, List, [], ◌∷◌, ◌++◌, length, drop, Option, Some, None}
use Rattle.std.specs.List.{flat_map, AllByRecursion}
use Rattle.std.specs.Int.{w8, w16, w32, w64}
use Rattle.std.specs.Ordering.{nat_cmp, is_lt}
use Rattle.std.specs.Cmp.Lexicographic.{slice_cmp}
use Rattle.stamp.specs.declared.name.Name.{Name}
use Rattle.stamp.specs.declared.version.Window.{Window}
use Rattle.stamp.specs.declared.version.Version.{Version}
use Rattle.le_codec.specs.Fields.{le}
use Rattle.le_codec.specs.Images.{first_format}
use Rattle.le_codec.specs.Images.{framed, block_of}
use Rattle.row_page.specs.declared.change.CellChange.TheVariants.{Put, Remove}
use Rattle.row_page.specs.Changes.{PageChange}

-- a row is a key and a version of it
abbrev pub Row : Type 0
Row = List ℕ × Version PageChange

-- keys by their bytes, a proper prefix first
abbrev pub is_below : List ℕ → List ℕ → Bool
is_below x y = is_lt (slice_cmp nat_cmp x y)

-- ---- the spelling

-- how a change stands in a cell: a code and a value
abbrev pub code_of : PageChange → ℕ
code_of (Put value) = 1
code_of Remove = 2

abbrev pub value_of : PageChange → List ℕ
value_of (Put value) = value
value_of Remove = []

abbrev pub window_text : Window → List ℕ
window_text w = le w64 w.name.run ++ le w64 w.name.id ++ le w64 w.commit ++ le w64 w.durable

abbrev pub lengths_text : ℕ → ℕ → ℕ → List ℕ
lengths_text key code value = le w16 key ++ le w8 code ++ le w32 value

-- what stands in a cell
pub record Raw : Type 0 where
  pub key : List ℕ
  pub code : ℕ
  pub window : Window
  pub value : List ℕ

abbrev pub raw_text : Raw → List ℕ
raw_text x = lengths_text (length x.key) x.code (length x.value) ++ window_text x.window ++ x.key ++ x.value

-- A row without the front of its key: the keys of a page may have a front in common, which the page then spells once.
abbrev pub tail_of : List ℕ → Row → Raw
tail_of front r = record { key = drop (length front) r.0; code = code_of r.1.change; window = r.1.window; value = value_of r.1.change }

abbrev pub cell_under : List ℕ → Row → List ℕ
cell_under front r = raw_text (tail_of front r)

-- ---- what has a spelling

-- a run or an id
abbrev pub IsNumber : ℕ → Type 0
IsNumber n = (1 ≤ n) × (n < 2 ^ 62)

pub record IsName (name : Name) : Type 0 where
  pub run : IsNumber name.run
  pub id : IsNumber name.id

pub record WindowFits (w : Window) : Type 0 where
  pub name : IsName w.name
  pub stamps : w.commit ≤ w.durable
  pub durable : w.durable < 2 ^ 64

-- a row whose key begins with the front, and has at most so many bytes
pub record RowFits (front : List ℕ) (most : ℕ) (r : Row) : Type 0 where
  pub begins : front ++ drop (length front) r.0 ≡ r.0
  pub key : length r.0 ≤ most
  pub value : length (value_of r.1.change) ≤ 16384
  pub window : WindowFits r.1.window

-- the key comes after the one before, where there is one
abbrev pub comes_after : Option (List ℕ) → List ℕ → Bool
comes_after None key = true
comes_after (Some before) key = is_below before key

abbrev pub key_of : Row → Option (List ℕ)
key_of r = Some r.0

-- the keys ascend strictly
abbrev pub Ascends : Option (List ℕ) → List Row → Type 0
Ascends before [] = Unit {0}
Ascends before (r ∷ rows) = IsTrue (comes_after before r.0) × Ascends (Some r.0) rows

-- ---- a leaf: no front, and keys of at most 1,024 bytes

abbrev pub key_most : ℕ
key_most = 1024

abbrev pub cell : Row → List ℕ
cell r = cell_under [] r

abbrev pub cells : List Row → List ℕ
cells rows = flat_map cell rows

-- the rows that a leaf can have; none is one case
pub record AreRows (rows : List Row) : Type 0 where
  pub fit : AllByRecursion (λ (r : Row). RowFits [] key_most r) rows
  pub ascend : Ascends None rows
  pub size : 16 + length (cells rows) ≤ 32768

-- the bytes of a leaf without what fills up its block
abbrev pub image : List Row → List ℕ
image rows = framed 1 first_format (length rows) 0 (cells rows)

-- the bytes of a leaf's block
pub record IsPage (bytes : List ℕ) (rows : List Row) : Type 0 where
  pub admitted : AreRows rows
  pub spelled : bytes ≡ block_of (image rows)
