-- What a checkpoint of an engine wrote of leaves, by their ids.
use Rattle.std.specs.Prelude.{ℕ, ◌==◌, Bool, true, false, List, [], ◌∷◌, map, Option, None, option_map, Vec, if◌then◌else◌}
use Rattle.std.specs.declared.alloc.Global.{Global}
use Rattle.stored.specs.TableTree.{Entry}

-- By the id of a leaf: the entries of its images, where a checkpoint of this engine wrote it
abbrev pub Written : Type 0
Written = ℕ → Option (List Entry)

-- rooms for entries by the ids of leaves, and those, where there are any
abbrev pub Rooms : Type 0
Rooms = List (ℕ × Option (List Entry))

-- what stands in the room of a leaf
abbrev pub known_in : Rooms → Written
known_in [] leaf = None
known_in ((id, entries) ∷ rooms) leaf = if id == leaf then entries else known_in rooms leaf

-- there is a room for the leaf
abbrev pub has_room : Rooms → ℕ → Bool
has_room [] leaf = false
has_room ((id, entries) ∷ rooms) leaf = if id == leaf then true else has_room rooms leaf

-- the rooms of the map that has them
abbrev pub rooms_in : List (ℕ × Option (Vec Entry Global)) → Rooms
rooms_in by_leaf = map {A = ℕ × Option (Vec Entry Global)} (λ e. (e.0, option_map (λ (es : Vec Entry Global). es.items) e.1)) by_leaf
