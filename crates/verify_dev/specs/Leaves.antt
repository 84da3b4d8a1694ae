-- The leaves of all trees of a device, and what is counted of them.
use Rattle.std.specs.Prelude.{◌≡◌, ℕ, ◌+◌, ◌<◌, List, [], ◌∷◌, length, slice_index_or, None}
use Rattle.row_page.specs.Rows.{Row}
use Rattle.stored.specs.Tree.{join}
use Rattle.tree_open.specs.declared.place.Upper.{Upper}
use Rattle.tree_open.specs.Trees.{leaf_addrs}
use Rattle.recover_open.specs.declared.check.Tally.{Tally}
use Rattle.recover_open.specs.Leaves.{AreLeaves}
use Rattle.recover_open.specs.Damage.{LeavesSpoil}

-- the device has a leaf for each of the entries of each tree
abbrev pub HaveLeaves : List ℕ → List Upper → List (List (List Row)) → Type 0
HaveLeaves bytes [] [] = Unit {0}
HaveLeaves bytes [] (leaves ∷ all) = ⊥
HaveLeaves bytes (u ∷ uppers) [] = ⊥
HaveLeaves bytes (u ∷ uppers) (leaves ∷ all) = AreLeaves bytes u.entries.items None leaves × HaveLeaves bytes uppers all

-- how many of these leaves stand somewhere
abbrev pub stored_below : List Upper → ℕ
stored_below [] = 0
stored_below (u ∷ uppers) = length (leaf_addrs u.entries.items) + stored_below uppers

-- how many rows stand in them
abbrev pub rows_below : List (List (List Row)) → ℕ
rows_below [] = 0
rows_below (leaves ∷ all) = length (join leaves) + rows_below all

-- The device has the leaves of each of these trees: so many are stored, and they have so many rows.
pub record AreAllTallied (bytes : List ℕ) (uppers : List Upper) (t : Tally) : Type 0 where
  pub all : List (List (List Row))
  pub have : HaveLeaves bytes uppers all
  pub stored : t.leaves ≡ stored_below uppers
  pub versions : t.versions ≡ rows_below all

-- a leaf of one of these trees is at fault, the first of that tree
pub record SomeSpoil (bytes : List ℕ) (uppers : List Upper) (at want found : ℕ) : Type 0 where
  pub upper : Upper
  pub index : ℕ
  pub within : index < length uppers
  pub is : upper ≡ slice_index_or uppers index upper
  pub spoils : LeavesSpoil bytes upper.entries.items at want found

-- the counts of both
abbrev pub IsSum : Tally → Tally → Tally → Type 0
IsSum a b t = (t.leaves ≡ a.leaves + b.leaves) × (t.versions ≡ a.versions + b.versions)
