-- The leaves of all tables, in the order of their tables, and those of a table in that of their low keys; what is asked of them, and what calls make of them.
use Rattle.std.specs.Prelude.{◌≡◌, ◌≢◌, ℕ, ◌<◌, ◌≤◌, ◌^◌, Bool, true, ◌&&◌, ◌==◌, not, nat_lt, List, [], ◌∷◌, ◌++◌, length, map, find, filter, Option, Some, None, option_map, if◌then◌else◌}
use Rattle.std.specs.Option.{option_or, option_to_list}
use Rattle.std.specs.List.{All, AllPairs, Contains}
use Rattle.row_page.specs.Rows.{is_below}
use Rattle.device_layout.specs.declared.link.Link.{Link}
use Rattle.stored.specs.Records.{IdsAscend}
use Rattle.stored.specs.TableTree.{Entry, Climbs, first_key}
use Rattle.tree_dir.specs.declared.leaf.Framed.{Framed}
use Rattle.tree_dir.specs.declared.leaf.Leaf.{Leaf}

pub record Directory : Type 0 where
  -- each id that was ever given is below it
  pub next : ℕ
  pub leaves : List Leaf

abbrev pub no_leaves : Directory
no_leaves = record { next = 0; leaves = [] }

-- what a leaf is ordered by: its table, then the bytes of its low key
abbrev pub place_key : Leaf → List ℕ
place_key l = l.table ∷ l.entry.key

abbrev pub is_before : Leaf → Leaf → Bool
is_before a b = is_below (place_key a) (place_key b)

abbrev pub is_first_of : ℕ → Leaf → Type 0
is_first_of table l = (l.table ≡ table) × (l.entry.key ≡ [])

-- each table has a leaf from the empty key on
abbrev pub TablesBegin : List Leaf → Type 0
TablesBegin leaves = (l : Leaf) → Contains leaves l → (first : Leaf) × Contains leaves first × is_first_of l.table first

-- what every directory keeps
pub record IsDirectory (d : Directory) : Type 0 where
  pub below : All (λ l. l.id < d.next) d.leaves
  -- no two leaves have one id
  pub once : AllPairs (λ a b. a.id ≢ b.id) d.leaves
  pub ascends : AllPairs (λ a b. is_before a b ≡ true) d.leaves
  pub begins : TablesBegin d.leaves
  pub few : length d.leaves ≤ 2 ^ 28

-- ---- what is asked

-- the leaf of this id
abbrev pub leaf_named : ℕ → List Leaf → Option Leaf
leaf_named id leaves = find (λ l. l.id == id) leaves

abbrev pub of_table : ℕ → Leaf → Option Leaf
of_table table l = if l.table == table then Some l else None

-- of this table, and of a low key that is not above this one
abbrev pub begins_by : ℕ → List ℕ → Leaf → Bool
begins_by table key l = (l.table == table) && not (is_below key l.entry.key)

-- the last leaf of the table whose low key is not above this one
abbrev pub leaf_under : ℕ → List ℕ → List Leaf → Option Leaf
leaf_under table key [] = None
leaf_under table key (l ∷ leaves) = option_or (leaf_under table key leaves) (if begins_by table key l then Some l else None)

-- the leaves of the table, in the order of their low keys
abbrev pub leaves_of : ℕ → List Leaf → List Leaf
leaves_of table leaves = filter (λ l. l.table == table) leaves

-- the last leaf of the table
abbrev pub leaf_last : ℕ → List Leaf → Option Leaf
leaf_last table [] = None
leaf_last table (l ∷ leaves) = option_or (leaf_last table leaves) (of_table table l)

-- the next leaf of the table of the leaf of this id
abbrev pub leaf_behind : ℕ → List Leaf → Option Leaf
leaf_behind id [] = None
leaf_behind id (a ∷ []) = None
leaf_behind id (a ∷ b ∷ leaves) = if a.id == id then of_table a.table b else leaf_behind id (b ∷ leaves)

-- the leaf before it in its table
abbrev pub leaf_ahead : ℕ → List Leaf → Option Leaf
leaf_ahead id [] = None
leaf_ahead id (a ∷ []) = None
leaf_ahead id (a ∷ b ∷ leaves) = if b.id == id then of_table b.table a else leaf_ahead id (b ∷ leaves)

-- ---- what calls make of them

-- the leaf of this id is changed, if there is one
abbrev pub changed : ℕ → (Leaf → Leaf) → List Leaf → List Leaf
changed id change leaves = map (λ l. if l.id == id then change l else l) leaves

abbrev pub in_frame : Option Framed → Leaf → Leaf
in_frame frame l = record { id = l.id; table = l.table; entry = l.entry; frame = frame }

-- it leads to another block
abbrev pub led_to : Link → Leaf → Leaf
led_to link l = record { id = l.id; table = l.table; entry = record { key = l.entry.key; link = link }; frame = l.frame }

-- leaves of a table of these ids and entries, in no frame
abbrev pub leaves_with : ℕ → List ℕ → List Entry → List Leaf
leaves_with table [] entries = []
leaves_with table (id ∷ ids) [] = []
leaves_with table (id ∷ ids) (e ∷ entries) = record { id = id; table = table; entry = e; frame = None } ∷ leaves_with table ids entries

-- so many ids, none of them ever given before, in ascending order
pub record AreNew (old new : Directory) (count : ℕ) (ids : List ℕ) : Type 0 where
  pub many : length ids ≡ count
  pub ascend : IdsAscend old.next new.next ids

-- a table with these leaves stands between those of lower and of greater numbers
pub record HasTable (old new : Directory) (table : ℕ) (entries : List Entry) (ids : List ℕ) : Type 0 where
  pub fresh : AreNew old new (length entries) ids
  pub leaves : new.leaves ≡ filter (λ l. nat_lt l.table table) old.leaves ++ leaves_with table ids entries ++ filter (λ l. nat_lt table l.table) old.leaves

-- the leaf of this id is gone, and others of its table stand in its place
abbrev pub given_way : ℕ → List ℕ → List Entry → List Leaf → List Leaf
given_way id ids entries [] = []
given_way id ids entries (l ∷ leaves) = if l.id == id then leaves_with l.table ids entries ++ leaves else l ∷ given_way id ids entries leaves

pub record GaveWay (old new : Directory) (id : ℕ) (entries : List Entry) (ids : List ℕ) : Type 0 where
  pub fresh : AreNew old new (length entries) ids
  pub leaves : new.leaves ≡ given_way id ids entries old.leaves

-- ---- what calls require

abbrev pub entry_of : Option Leaf → List Entry
entry_of o = option_to_list (option_map (λ l. l.entry) o)

-- entries that may be a table's leaves: some, ascending from the empty key on
pub record AreTable (entries : List Entry) : Type 0 where
  pub begins : first_key entries ≡ Some []
  pub climbs : Climbs entries

-- entries that may take the place of a leaf: some, ascending from its low key on, and below the next leaf of its table
pub record TakePlace (id : ℕ) (entries : List Entry) (leaves : List Leaf) : Type 0 where
  pub leaf : Leaf
  pub there : leaf_named id leaves ≡ Some leaf
  pub begins : first_key entries ≡ Some leaf.entry.key
  pub climbs : Climbs (entries ++ entry_of (leaf_behind id leaves))
