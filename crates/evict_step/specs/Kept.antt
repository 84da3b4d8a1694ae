-- Versions that are kept of leaves that are in no frame.
use Rattle.std.specs.Prelude.{◌≡◌, ℕ, ◌==◌, ◌&&◌, ◌++◌, Bool, true, false, not, List, [], ◌∷◌, map, filter, Vec, bytes_eq, if◌then◌else◌}
use Rattle.std.specs.declared.alloc.Global.{Global}
use Rattle.item.specs.declared.Change.{Change}
use Rattle.item.specs.declared.Change.TheVariants.{Put, Remove}
use Rattle.kv_model.specs.History.{name_eq}
use Rattle.kv_model.specs.Machine.{of_some}
use Rattle.stamp.specs.declared.Version.{Version}
use Rattle.row_page.specs.Rows.{Row}
use Rattle.reconcile.specs.Shows.{shown_at}
use Rattle.reconcile.specs.declared.image.Moved.{Moved}
use Rattle.reconcile.specs.Moving.{versions_in}
use Rattle.tree_dir.specs.declared.leaf.Leaf.{Leaf}
use Rattle.tree_dir.specs.Leaves.{leaf_under}
use Rattle.engine_world.specs.Worlds.{Records, World}
use Rattle.evict_step.specs.Backs.{AllFit}
use Rattle.evict_step.specs.declared.fresh.Fresh.{Fresh}

-- with the id of each leaf what moved when it was evicted
abbrev pub Lists : Type 0
Lists = List (ℕ × List Moved)

-- what is kept of a leaf
abbrev pub list_of : Lists → ℕ → List Moved
list_of [] leaf = []
list_of ((id, moved) ∷ lists) leaf = if id == leaf then moved else list_of lists leaf

-- and of one of its keys, newest first
abbrev pub records_in : Lists → ℕ → List ℕ → List (Version Change)
records_in lists leaf key = versions_in key (list_of lists leaf)

-- the lists of the map that has them
abbrev pub lists_in : List (ℕ × Vec Moved Global) → Lists
lists_in by_leaf = map {A = ℕ × Vec Moved Global} (λ e. (e.0, e.1.items)) by_leaf

-- of these versions, each of which is of a leaf, those of one
abbrev pub fresh_of : List Fresh → ℕ → List Moved
fresh_of [] leaf = []
fresh_of (f ∷ fresh) leaf = if f.leaf == leaf then f.one ∷ fresh_of fresh leaf else fresh_of fresh leaf

-- the lists, each of these versions behind what there is of its leaf
abbrev pub with_fresh : List Fresh → Lists → Lists
with_fresh [] lists = lists
with_fresh (f ∷ fresh) lists = with_fresh fresh ((f.leaf, list_of lists f.leaf ++ f.one ∷ []) ∷ lists)

-- each version fits a row of its key
abbrev pub AllListsFit : Lists → Type 0
AllListsFit lists = (leaf : ℕ) → AllFit (list_of lists leaf)

-- this is kept of the leaf then, and of each other what was
abbrev pub KeepsAt : Lists → Lists → ℕ → List Moved → Type 0
KeepsAt before lists leaf moved = (id : ℕ) → list_of lists id ≡ (if id == leaf then moved else list_of before id)

-- this is kept of each leaf then, behind what was
abbrev pub KeepsMore : Lists → Lists → (ℕ → List Moved) → Type 0
KeepsMore before lists more = (id : ℕ) → list_of lists id ≡ list_of before id ++ more id

-- one version of this leaf, and none of others
abbrev pub alone_in : ℕ → Moved → ℕ → List Moved
alone_in leaf one id = if id == leaf then one ∷ [] else []

-- ---- versions that are rows

abbrev pub change_eq : Change → Change → Bool
change_eq (Put value) (Put other) = bytes_eq value other
change_eq Remove Remove = true
change_eq _ _ = false

abbrev pub version_eq : Version Change → Version Change → Bool
version_eq v w = name_eq v.window.name w.window.name && ((v.window.commit == w.window.commit) && ((v.window.durable == w.window.durable) && change_eq v.change w.change))

-- it is the row of its key
abbrev pub is_row : List Row → Moved → Bool
is_row rows m = of_some false (λ (v : Version Change). version_eq v m.version) (shown_at m.key rows)

abbrev pub but_rows : List Row → List Moved → List Moved
but_rows rows moved = filter (λ m. not (is_row rows m)) moved

-- ---- the history of a world

-- what is kept of a leaf and of one of its keys beside the rows of its block
abbrev pub older_in : (ℕ → List Row) → Lists → ℕ → List ℕ → List (Version Change)
older_in shelf lists leaf key = versions_in key (but_rows (shelf leaf) (list_of lists leaf))

-- the history of this world has these versions, and no others, but for those that are rows of the blocks
abbrev pub KeepsThese : World → Lists → Type 0
KeepsThese w lists = (leaf : ℕ) (key : List ℕ) → w.records leaf key ≡ older_in w.shelf lists leaf key

-- ---- of a leaf that parted

-- the key lies in the leaf of this id
abbrev pub lies_in : List Leaf → ℕ → ℕ → List ℕ → Bool
lies_in leaves table id key = of_some false (λ (l : Leaf). l.id == id) (leaf_under table key leaves)

-- those of these versions whose keys lie in it
abbrev pub lying_in : List Leaf → ℕ → List Moved → ℕ → List Moved
lying_in leaves table moved id = filter (λ m. lies_in leaves table id m.key) moved

-- the history, in which each leaf of the table has the versions whose keys lie in it, behind what it had
abbrev pub with_moved : List Leaf → ℕ → List Moved → Records → Records
with_moved leaves table moved records id key = records id key ++ versions_in key (lying_in leaves table moved id)
