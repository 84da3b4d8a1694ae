-- The trees of the tables in a checkpoint.
use Rattle.std.specs.Prelude.{◌≡◌, ℕ, ◌≤◌, List, [], ◌∷◌, ◌++◌, map, Option, Some, None, slice_get, slice_index_or}
use Rattle.std.specs.List.{flat_map, AllByRecursion}
use Rattle.device_layout.specs.declared.addr.Addr.{Addr}
use Rattle.device_layout.specs.declared.link.Link.{Link}
use Rattle.kv_model.specs.History.{Table}
use Rattle.stored.specs.Blocks.{Block}
use Rattle.stored.specs.Records.{Root, TableRoot}
use Rattle.stored.specs.Stored.{Stored}
use Rattle.stored.specs.TableTree.{TableTree, root_entry, table_kind}
use Rattle.stored.specs.Tree.{tree_blocks}
use Rattle.tree_open.specs.declared.place.TreePlace.{TreePlace}
use Rattle.tree_open.specs.Trees.{HasTree, IsPlaceOf}

-- ---- in a checkpoint

abbrev pub table_root : Table → Root → TableRoot
table_root t root = record { table = t; root = root }

-- of tables and their trees, in one order, these are a table and its tree
abbrev pub IsPair : TableRoot → TableTree → List TableRoot → List TableTree → Type 0
IsPair r tree tables trees = (i : ℕ) × (slice_get tables i ≡ Some r) × (slice_get trees i ≡ Some tree)

-- the checkpoint has this tree of the table, and it stands there
abbrev pub HasTreeAt : Option Stored → Table → TreePlace → TableTree → Type 0
HasTreeAt None t place tree = ⊥
HasTreeAt (Some s) t place tree = IsPair (table_root t place.root) tree s.kept.tables s.trees × IsPlaceOf place tree

-- ---- by place

-- what leads to the leaves of the tree at a place; nothing where there is none
abbrev pub leaves_at : List TreePlace → ℕ → List Link
leaves_at places i = slice_index_or (map {A = TreePlace} (λ p. p.leaves.items) places) i []

-- where the blocks of all trees stand
abbrev pub addrs_of : List TreePlace → List Addr
addrs_of places = flat_map {X = TreePlace} (λ p. p.addrs.items) places

abbrev pub roots_of : List TreePlace → List Root
roots_of places = map {A = TreePlace} (λ p. p.root) places

-- Where the trees of a running checkpoint stand, which tells those that it wrote: any other stands where it did before.
abbrev pub placed_by : List TreePlace → List (Option TreePlace) → List TreePlace
placed_by [] [] = []
placed_by [] (None ∷ told) = placed_by [] told
placed_by [] (Some p ∷ told) = p ∷ placed_by [] told
placed_by (w ∷ was) [] = []
placed_by (w ∷ was) (None ∷ told) = w ∷ placed_by was told
placed_by (w ∷ was) (Some p ∷ told) = p ∷ placed_by was told

-- each that is not told stood somewhere before
abbrev pub AreKept : List TreePlace → List (Option TreePlace) → Type 0
AreKept [] [] = Unit {0}
AreKept [] (None ∷ told) = ⊥
AreKept [] (Some p ∷ told) = AreKept [] told
AreKept (w ∷ was) [] = Unit {0}
AreKept (w ∷ was) (None ∷ told) = AreKept was told
AreKept (w ∷ was) (Some p ∷ told) = AreKept was told

-- the trees of before that stand where they did, and those that do not
abbrev pub kept_by : List TreePlace → List (Option TreePlace) → List TreePlace
kept_by [] told = []
kept_by (w ∷ was) [] = []
kept_by (w ∷ was) (None ∷ told) = w ∷ kept_by was told
kept_by (w ∷ was) (Some p ∷ told) = kept_by was told

abbrev pub left_by : List TreePlace → List (Option TreePlace) → List TreePlace
left_by [] told = []
left_by (w ∷ was) [] = w ∷ left_by was []
left_by (w ∷ was) (None ∷ told) = left_by was told
left_by (w ∷ was) (Some p ∷ told) = w ∷ left_by was told

-- none has more levels than a record tells
abbrev pub AreLow : List TreePlace → Type 0
AreLow places = AllByRecursion (λ (p : TreePlace). p.root.level ≤ 60) places

-- so each tree has a place, and none has more levels
pub record AreTold (was : List TreePlace) (told : List (Option TreePlace)) : Type 0 where
  pub kept : AreKept was told
  pub low : AreLow (placed_by was told)

-- the device has a tree at each place
abbrev pub AreTreesAt : List ℕ → List TreePlace → List TableTree → Type 0
AreTreesAt bytes [] [] = Unit {0}
AreTreesAt bytes [] (tree ∷ trees) = ⊥
AreTreesAt bytes (p ∷ places) [] = ⊥
AreTreesAt bytes (p ∷ places) (tree ∷ trees) = HasTree bytes p.root tree × IsPlaceOf p tree × AreTreesAt bytes places trees

-- their blocks
abbrev pub trees_blocks : List TreePlace → List TableTree → List Block
trees_blocks [] trees = []
trees_blocks (p ∷ places) [] = []
trees_blocks (p ∷ places) (tree ∷ trees) = tree_blocks table_kind (root_entry p.root.link) tree ++ trees_blocks places trees
