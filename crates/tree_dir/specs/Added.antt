-- What slots and their order are after leaves came to them, or took the place of one.
use Rattle.std.specs.Prelude.{◌≡◌, ℕ, ◌+◌, ◌*◌, ◌≤◌, ◌^◌, List, ◌∷◌, ◌++◌, length}
use Rattle.stored.specs.TableTree.{Entry}
use Rattle.tree_dir.specs.declared.leaf.Leaf.{Leaf}
use Rattle.tree_dir.specs.Order.{IsWay, with_leaves}
use Rattle.tree_dir.specs.Slots.{leaf_at, leaves_at, new_leaf, numbered, slot_changed}

-- the ids of a serial number begin here
abbrev pub ids_of : ℕ → ℕ
ids_of serial = serial * 2 ^ 28

-- leaves with these entries lie behind all slots, each named in its place in the order
pub record IsAdded (slots : List Leaf) (order : List ℕ) (table serial : ℕ) (es : List Entry) (later : List Leaf) (after : List ℕ) : Type 0 where
  pub slots_are : later ≡ slots ++ numbered table (ids_of serial + length slots) es
  pub way : IsWay later after
  pub in_order : leaves_at later after ≡ with_leaves (numbered table (ids_of serial + length slots) es) (leaves_at slots order)
  pub few : length later ≤ 2 ^ 28

-- the first leaf takes the slot, and the others come behind all slots
pub record IsReplaced (slots : List Leaf) (order : List ℕ) (slot serial : ℕ) (es : List Entry) (later : List Leaf) (after : List ℕ) : Type 0 where
  pub first : Entry
  pub rest : List Entry
  pub between : List Leaf
  pub all : es ≡ first ∷ rest
  pub added : IsAdded slots order (leaf_at slots slot).table serial rest between after
  pub slots_are : later ≡ slot_changed slot (λ _. new_leaf (leaf_at slots slot).table (ids_of serial + slot) first) between
