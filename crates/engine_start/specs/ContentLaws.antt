-- What of a device an opening keeps.
use Rattle.std.specs.Prelude.{◌≡◌, ℕ, List}
use Rattle.leaf_rows.specs.declared.marks.Marks.{Marks}
use Rattle.engine_start.specs.Contents.{TableLeaf, kept_leaves, seen_leaves}

-- what an opening keeps where some ids had not ended, one keeps where each had
abbrev pub SeenStay : Type 0
SeenStay = (m : Marks) (ids : List ℕ) (leaves : List TableLeaf) → kept_leaves m (seen_leaves m ids leaves) ≡ seen_leaves m ids leaves
