-- What is loaded of a leaf.
use Rattle.std.specs.Prelude.{◌≡◌, ℕ, Bool, ◌&&◌, ◌||◌, ◌==◌, nat_le, nat_lt, not, IsTrue, List, [], Option}
use Rattle.std.specs.List.{AllByRecursion}
use Rattle.stamp.specs.declared.name.Name.{Name}
use Rattle.device_layout.specs.declared.link.Link.{Link}
use Rattle.row_page.specs.Rows.{Row, IsPage, is_below}
use Rattle.stored.specs.TableTree.{Entry, ends_below}
use Rattle.leaf_rows.specs.declared.marks.Marks.{Marks}
use Rattle.leaf_rows.specs.Contents.{seen_rows}
use Rattle.device_leaf.specs.Leaves.{LeafIs}
use Rattle.recover_open.specs.Leaves.{IsUnder}
use Rattle.recover_open.specs.Tallies.{IsLeafOf}
use Rattle.leaf_frame.specs.Leaf.{HeldLeaf, leaf_of}

-- what leads to a leaf: the least key that may stand in it, and the link
abbrev pub entry_of : List ℕ → Link → Entry
entry_of low link = record { key = low; link = link }

-- the keys are from the first up to the other, where there is one
abbrev pub AreBetween : List ℕ → Option (List ℕ) → List Row → Type 0
AreBetween low next rows = AllByRecursion (λ (r : Row). IsTrue (not (is_below r.0 low)) × IsTrue (ends_below next r.0)) rows

-- The device has a leaf where the entry leads, with keys up to the next entry's: what is loaded is what an opening keeps of its rows, as a page under no chains.
pub record IsLoaded (bytes : List ℕ) (e : Entry) (next : Option (List ℕ)) (marks : Marks) (ids : List ℕ) (leaf : HeldLeaf) : Type 0 where
  pub rows : List Row
  pub under : IsUnder bytes e next rows
  pub is : leaf ≡ leaf_of (seen_rows marks ids rows) []

-- the block spells these rows, which are those of the entry's leaf
pub record SpellsRows (block : List ℕ) (e : Entry) (next : Option (List ℕ)) (rows : List Row) : Type 0 where
  pub page : IsPage block rows
  pub leaf : IsLeafOf e next rows

-- an opening keeps a version of at most this name and durable stamp, whichever ids had not ended
abbrev pub are_surely_seen : Marks → Name → ℕ → Bool
are_surely_seen m greatest durable = (nat_lt greatest.run m.run || ((greatest.run == m.run) && nat_lt greatest.id m.min)) && ((m.stable == 0) || nat_le durable m.stable)

-- whatever rows the device has there, they are those of which the loaded leaf has what an opening keeps
abbrev pub OneIsLoaded : Type 0
OneIsLoaded = (bytes : List ℕ) (e : Entry) (next : Option (List ℕ)) (marks : Marks) (ids : List ℕ) (leaf : HeldLeaf) (rows : List Row) → IsLoaded bytes e next marks ids leaf → LeafIs bytes e.link rows → leaf ≡ leaf_of (seen_rows marks ids rows) []
