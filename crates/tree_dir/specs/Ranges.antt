-- The keys of a leaf, and how the leaves of a table part its keys.
use Rattle.std.specs.Prelude.{◌≡◌, ℕ, true, List, [], Option, Some, None, IsTrue, not}
use Rattle.std.specs.List.{Contains}
use Rattle.row_page.specs.Rows.{is_below}
use Rattle.stored.specs.TableTree.{ends_below}
use Rattle.tree_dir.specs.declared.leaf.Leaf.{Leaf}
use Rattle.tree_dir.specs.Leaves.{Directory, IsDirectory, leaf_named, leaf_under, leaf_last, leaf_behind, leaf_ahead}

abbrev pub low_key : Option Leaf → Option (List ℕ)
low_key None = None
low_key (Some l) = Some l.entry.key

-- a leaf of the table has this key: it is from the leaf's low key on, and below the next leaf's
pub record HasKey (d : Directory) (number : ℕ) (key : List ℕ) (l : Leaf) : Type 0 where
  pub there : Contains d.leaves l
  pub table : l.table ≡ number
  pub from : IsTrue (not (is_below key l.entry.key))
  pub to : IsTrue (ends_below (low_key (leaf_behind l.id d.leaves)) key)

-- the leaf that is under a key is the one that has it
abbrev pub UnderHas : Type 0
UnderHas = (d : Directory) → IsDirectory d → (table : ℕ) (key : List ℕ) (l : Leaf) → leaf_under table key d.leaves ≡ Some l → HasKey d table key l

abbrev pub HasUnder : Type 0
HasUnder = (d : Directory) → IsDirectory d → (table : ℕ) (key : List ℕ) (l : Leaf) → HasKey d table key l → leaf_under table key d.leaves ≡ Some l

-- each key of a table that is there lies in a leaf
abbrev pub KeysHaveLeaves : Type 0
KeysHaveLeaves = (d : Directory) → IsDirectory d → (m : Leaf) → Contains d.leaves m → (key : List ℕ) → (l : Leaf) × HasKey d m.table key l

-- the next leaf is of the same table, has its own low key, and no key lies between the two
abbrev pub NextGoesOn : Type 0
NextGoesOn = (d : Directory) → IsDirectory d → (table : ℕ) (key : List ℕ) (l n : Leaf) → HasKey d table key l → leaf_behind l.id d.leaves ≡ Some n → HasKey d table n.entry.key n × (is_below key n.entry.key ≡ true)

-- the leaf before the next is the leaf
abbrev pub NextTurns : Type 0
NextTurns = (d : Directory) → IsDirectory d → (l n : Leaf) → Contains d.leaves l → leaf_behind l.id d.leaves ≡ Some n → leaf_ahead n.id d.leaves ≡ Some l

-- the leaf behind the one before a leaf is that leaf
abbrev pub PrevTurns : Type 0
PrevTurns = (d : Directory) → IsDirectory d → (l a : Leaf) → Contains d.leaves l → leaf_ahead l.id d.leaves ≡ Some a → Contains d.leaves a × (a.table ≡ l.table) × (leaf_behind a.id d.leaves ≡ Some l)

-- a leaf with none before it has the keys from the empty one on
abbrev pub FirstBegins : Type 0
FirstBegins = (d : Directory) → IsDirectory d → (l : Leaf) → Contains d.leaves l → leaf_ahead l.id d.leaves ≡ None → l.entry.key ≡ []

-- the last leaf of a table is one of its leaves, and none of them is behind it
abbrev pub LastEnds : Type 0
LastEnds = (d : Directory) → IsDirectory d → (table : ℕ) (l : Leaf) → leaf_last table d.leaves ≡ Some l → Contains d.leaves l × (l.table ≡ table) × (leaf_behind l.id d.leaves ≡ None)

-- a table that has a leaf has a last one
abbrev pub TablesEnd : Type 0
TablesEnd = (leaves : List Leaf) (m : Leaf) → Contains leaves m → (l : Leaf) × (leaf_last m.table leaves ≡ Some l)

-- a leaf is found by its id
abbrev pub IdsName : Type 0
IdsName = (d : Directory) → IsDirectory d → (l : Leaf) → Contains d.leaves l → leaf_named l.id d.leaves ≡ Some l
