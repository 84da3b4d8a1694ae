-- What the slots of a directory and their order keep.
use Rattle.std.specs.Prelude.{◌≡◌, ℕ, ◌*◌, ◌<◌, ◌≤◌, ◌^◌, List, length}
use Rattle.tree_dir.specs.declared.leaf.Leaf.{Leaf}
use Rattle.tree_dir.specs.Leaves.{TablesBegin}
use Rattle.tree_dir.specs.Order.{IsWay}
use Rattle.tree_dir.specs.Slots.{home_of, leaf_at, leaves_at}

-- each leaf lies in the slot that its id says
abbrev pub AreHome : List Leaf → Type 0
AreHome slots = (i : ℕ) → i < length slots → home_of (leaf_at slots i).id ≡ i

-- each id is below this one
abbrev pub AreBelow : ℕ → List Leaf → Type 0
AreBelow next slots = (i : ℕ) → i < length slots → (leaf_at slots i).id < next

pub record IsSound (serial : ℕ) (slots : List Leaf) (order : List ℕ) : Type 0 where
  pub way : IsWay slots order
  pub home : AreHome slots
  pub below : AreBelow (serial * 2 ^ 28) slots
  pub few : length slots ≤ 2 ^ 28
  pub counted : serial < 2 ^ 36
  pub begins : TablesBegin (leaves_at slots order)
