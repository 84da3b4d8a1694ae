-- Leaves in slots. A leaf's id is its slot, and 2^28 times a number that is counted up.
use Rattle.std.specs.Prelude.{ℕ, ◌+◌, ◌%◌, ◌^◌, ◌==◌, zero, suc, List, [], ◌∷◌, map, slice_get, Option, Some, None, if◌then◌else◌}
use Rattle.stored.specs.Links.{nowhere}
use Rattle.stored.specs.TableTree.{Entry}
use Rattle.tree_dir.specs.declared.leaf.Leaf.{Leaf}

abbrev pub no_leaf : Leaf
no_leaf = record { id = 0; table = 0; entry = record { key = []; link = nowhere }; frame = None }

abbrev pub leaf_in : Option Leaf → Leaf
leaf_in None = no_leaf
leaf_in (Some l) = l

abbrev pub leaf_at : List Leaf → ℕ → Leaf
leaf_at slots i = leaf_in (slice_get slots i)

-- the leaves in the order in which their slots are named
abbrev pub leaves_at : List Leaf → List ℕ → List Leaf
leaves_at slots order = map (leaf_at slots) order

-- the slot of an id
abbrev pub home_of : ℕ → ℕ
home_of id = id % (2 ^ 28)

abbrev pub if_named : ℕ → Option Leaf → Option Leaf
if_named id None = None
if_named id (Some l) = if l.id == id then Some l else None

-- the leaf of this id, by its slot
abbrev pub leaf_by_id : ℕ → List Leaf → Option Leaf
leaf_by_id id slots = if_named id (slice_get slots (home_of id))

-- the leaf in this slot is changed, if there is one
abbrev pub slot_changed : ℕ → (Leaf → Leaf) → List Leaf → List Leaf
slot_changed i change [] = []
slot_changed zero change (l ∷ slots) = change l ∷ slots
slot_changed (suc i) change (l ∷ slots) = l ∷ slot_changed i change slots

abbrev pub if_there : ℕ → Option Leaf → Option ℕ
if_there i None = None
if_there i (Some l) = Some i

-- the slot of the leaf of this id
abbrev pub slot_by_id : ℕ → List Leaf → Option ℕ
slot_by_id id slots = if_there (home_of id) (leaf_by_id id slots)

abbrev pub changed_if : Option ℕ → (Leaf → Leaf) → List Leaf → List Leaf
changed_if None change slots = slots
changed_if (Some i) change slots = slot_changed i change slots

-- the leaf of this id is changed, if there is one
abbrev pub changed_by_id : ℕ → (Leaf → Leaf) → List Leaf → List Leaf
changed_by_id id change slots = changed_if (slot_by_id id slots) change slots

abbrev pub new_leaf : ℕ → ℕ → Entry → Leaf
new_leaf table id e = record { id = id; table = table; entry = e; frame = None }

-- leaves of a table with these entries, with the ids from this one on, in no frame
abbrev pub numbered : ℕ → ℕ → List Entry → List Leaf
numbered table id [] = []
numbered table id (e ∷ entries) = new_leaf table id e ∷ numbered table (id + 1) entries

abbrev pub if_of_table : ℕ → Option Leaf → Option Leaf
if_of_table table None = None
if_of_table table (Some l) = if l.table == table then Some l else None

-- the first of these leaves, up to one of another table
abbrev pub front_of : ℕ → List Leaf → List Leaf
front_of table [] = []
front_of table (l ∷ leaves) = if l.table == table then l ∷ front_of table leaves else []
