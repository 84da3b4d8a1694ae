-- What a checkpoint has of the leaves of the directory: by leaf its part of the table's tree, which is some leaves of that tree, one behind the other.
use Rattle.std.specs.Prelude.{◌≡◌, ℕ, ◌≤◌, ◌==◌, Bool, true, false, List, [], ◌∷◌, ◌++◌, length, map, filter, not, slice_get, Option, None, Some, IfSome, if◌then◌else◌}
use Rattle.std.specs.List.{AllByRecursion, Contains, flat_map}
use Rattle.std.specs.Option.{option_or}
use Rattle.device_layout.specs.declared.link.Link.{Link}
use Rattle.kv_model.specs.History.{Table}
use Rattle.kv_model.specs.Holds.{Member}
use Rattle.kv_model.specs.Machine.{of_some}
use Rattle.leaf_rows.specs.Rows.{AreFit}
use Rattle.row_page.specs.Rows.{Row}
use Rattle.snapshot.specs.Past.{is_below}
use Rattle.stamp.specs.declared.Name.{Name}
use Rattle.stored.specs.TableTree.{Climbs, Entry, EntryFits, Stay, TableTree, first_key}
use Rattle.stored.specs.Tree.{join}
use Rattle.tree_dir.specs.declared.leaf.Leaf.{Leaf}
use Rattle.tree_dir.specs.Leaves.{leaf_under, leaves_of}
use Rattle.tree_open.specs.declared.place.TreePlace.{TreePlace}
use Rattle.tree_write.specs.Cuts.{AreFullLeaves}
use Rattle.tree_write.specs.Drafts.{aligned}
use Rattle.tree_write.specs.Steps.{links_in}
use Rattle.ckpt_step.specs.Lives.{NoneLive, is_live}
use Rattle.ckpt_step.specs.Rooms.{Rooms, Written, has_room}
use Rattle.ckpt_step.specs.declared.lives.Lone.{Lone}
use Rattle.ckpt_step.specs.declared.parts.LeafPart.{LeafPart}

-- ---- the entries of a leaf

-- a link to rows says the greatest of their names, which has an id; any other leads to no rows
abbrev pub has_rows : Link → Bool
has_rows link = not (link.greatest.id == 0)

-- the part of a leaf that no checkpoint of this engine wrote: the leaf to which the directory's entry leads, where that has rows
abbrev pub own_part : Entry → Option (List Entry)
own_part e = if e.link.greatest.id == 0 then None else Some (e ∷ [])

-- the entries that the checkpoint before has of a leaf; None: nothing was ever written of it, or no rows
abbrev pub part_in : Written → Leaf → Option (List Entry)
part_in written l = option_or (written l.id) (own_part l.entry)

-- the same, where nothing was written without entries
abbrev pub part_of : Written → Leaf → List Entry
part_of written l = of_some [] (λ (es : List Entry). es) (part_in written l)

-- the parts of leaves, one behind the other
abbrev pub parts_of : Written → List Leaf → List Entry
parts_of written leaves = flat_map {X = Leaf} (λ l. part_of written l) leaves

-- once a running checkpoint wrote these
abbrev pub with_parts : Written → List LeafPart → Written
with_parts written [] id = written id
with_parts written (p ∷ more) id = with_parts (λ other. if other == p.leaf then Some p.entries.items else written other) more id

-- there is room for their entries
abbrev pub HaveRoom : Rooms → List LeafPart → Type 0
HaveRoom rooms more = AllByRecursion (λ (p : LeafPart). has_room rooms p.leaf ≡ true) more

-- each of them is of one of these leaves
abbrev pub AreOfLeaves : List Leaf → List LeafPart → Type 0
AreOfLeaves leaves more = AllByRecursion (λ (p : LeafPart). (l : Leaf) × Contains leaves l × (l.id ≡ p.leaf)) more

-- each leaf that is written is of one of these tables
abbrev pub AreOfTables : List Table → List Leaf → List LeafPart → Type 0
AreOfTables known leaves more = AllByRecursion (λ (p : LeafPart). (j : ℕ) × (t : Table) × (slice_get known j ≡ Some t) × ((l : Leaf) × Contains (leaves_of t.number leaves) l × (l.id ≡ p.leaf))) more

-- ---- their rows

-- the rows of the leaf that a link leads to, of the leaves with these links, in one order; none where none of them is there
abbrev pub rows_behind : List Link → List (List Row) → Link → List Row
rows_behind [] leaves link = []
rows_behind (first ∷ links) [] link = []
rows_behind (first ∷ links) (rows ∷ leaves) link = if first.addr.offset == link.addr.offset then rows else rows_behind links leaves link

-- the rows of the leaves of a part, in a tree that stands at a place
abbrev pub part_leaves : TreePlace → TableTree → List Entry → List (List Row)
part_leaves place tree part = map {A = Entry} (λ e. rows_behind place.leaves.items tree.leaves e.link) part

-- ---- a tree by parts

-- The row's key lies in this leaf of the table.
abbrev pub LieIn : List Leaf → ℕ → Leaf → List Row → Type 0
LieIn leaves table l rows = AllByRecursion (λ (r : Row). leaf_under table r.0 leaves ≡ Some l) rows

-- Entries and the rows of their leaves are a part of the tree of a table, and all of it that lies in this leaf of the directory: the first entry has the leaf's low key.
pub record IsPart (leaves : List Leaf) (table : ℕ) (l : Leaf) (part : List Entry) (images : List (List Row)) : Type 0 where
  pub fit : AllByRecursion (λ (e : Entry). EntryFits e) part
  pub climbs : Climbs part
  pub begins : IfSome (first_key part) (λ key. key ≡ l.entry.key)
  pub stay : Stay part images
  pub full : AreFullLeaves images
  pub some : AllByRecursion (λ (rows : List Row). 1 ≤ length rows) images
  pub rows_fit : AreFit (join images)
  pub lie : LieIn leaves table l (join images)

-- The tree of a table, at a place, has the part of each of the table's leaves but of those that were written since. Where none was it is these parts, one behind the other: of its leaves those that have rows.
pub record IsParted (lives : List Lone) (leaves : List Leaf) (table : ℕ) (written : Written) (place : TreePlace) (tree : TableTree) : Type 0 where
  pub joined : NoneLive lives leaves table → filter has_rows place.leaves.items ≡ links_in (parts_of written (leaves_of table leaves))
  pub among : (l : Leaf) → Contains leaves l → l.table ≡ table → is_live lives l ≡ false → (e : Entry) → Member e (part_of written l) → Member e.link place.leaves.items × (has_rows e.link ≡ true)
  pub parts : (l : Leaf) → Contains leaves l → l.table ≡ table → is_live lives l ≡ false → IsPart leaves table l (part_of written l) (part_leaves place tree (part_of written l))

-- ---- the links over which leaves are written

-- By leaf of a table and the images of each: the links of before, by place within the leaf. An image that has none there leads nowhere.
abbrev pub links_over : Written → List Leaf → List (List (List Row)) → List Link
links_over written [] parts = []
links_over written (l ∷ leaves) [] = []
links_over written (l ∷ leaves) (images ∷ parts) = aligned (links_in (part_of written l)) images ++ links_over written leaves parts

-- the rows are parted by the leaves of their table
abbrev pub ArePartedBy : List Leaf → ℕ → List Leaf → List (List (List Row)) → Type 0
ArePartedBy all table [] [] = Unit {0}
ArePartedBy all table [] (images ∷ parts) = ⊥
ArePartedBy all table (l ∷ leaves) [] = ⊥
ArePartedBy all table (l ∷ leaves) (images ∷ parts) = LieIn all table l (join images) × ArePartedBy all table leaves parts

-- ---- a floor

-- the names of all of these entries' leaves are below the floor
abbrev pub AreBelowFloor : Name → List Entry → Type 0
AreBelowFloor floor part = AllByRecursion (λ (e : Entry). is_below e.link.greatest floor ≡ true) part
