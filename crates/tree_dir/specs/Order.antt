-- The slots in the order of their tables, and in a table in that of their low keys.
use Rattle.std.specs.Prelude.{◌≡◌, ℕ, ◌<◌, nat_lt, List, [], ◌∷◌, length, slice_get, Option, Some, None, if◌then◌else◌}
use Rattle.std.specs.List.{All, AllPairs, Contains}
use Rattle.std.specs.Ordering.{nat_cmp}
use Rattle.std.specs.Cmp.Lexicographic.{slice_cmp}
use Rattle.std.specs.declared.cmp.Ordering.{Ordering}
use Rattle.std.specs.declared.cmp.Ordering.TheVariants.{Less, Equal, Greater}
use Rattle.tree_dir.specs.declared.leaf.Leaf.{Leaf}
use Rattle.tree_dir.specs.Leaves.{place_key, is_before}

-- nothing where there is no such slot
abbrev pub rank_key : Option Leaf → List ℕ
rank_key None = []
rank_key (Some l) = place_key l

abbrev pub rank_at : List Leaf → ℕ → List ℕ
rank_at slots i = rank_key (slice_get slots i)

-- how what slot i is ordered by compares with this
abbrev pub rank_order : List Leaf → List ℕ → ℕ → Ordering
rank_order slots place i = slice_cmp nat_cmp (rank_at slots i) place

-- slot i is before slot j
abbrev pub IsSlotBelow : List Leaf → ℕ → ℕ → Type 0
IsSlotBelow slots i j = rank_order slots (rank_at slots j) i ≡ Less

-- each slot is named once, in the order of tables and low keys
pub record IsWay (slots : List Leaf) (way : List ℕ) : Type 0 where
  pub within : All (λ i. i < length slots) way
  pub ascends : AllPairs (IsSlotBelow slots) way
  pub whole : (i : ℕ) → i < length slots → Contains way i

-- an equal place counts as below
abbrev pub not_above : Ordering → Ordering
not_above Less = Less
not_above Equal = Less
not_above Greater = Greater

-- how the table of a leaf compares with this one; an equal one counts as below
abbrev pub table_order : ℕ → Option Leaf → Ordering
table_order table None = Less
table_order table (Some l) = if nat_lt table l.table then Greater else Less

-- leaves in their order, with one more
abbrev pub with_leaf : Leaf → List Leaf → List Leaf
with_leaf l [] = l ∷ []
with_leaf l (m ∷ leaves) = if is_before m l then m ∷ with_leaf l leaves else l ∷ (m ∷ leaves)

-- with these, one after the other
abbrev pub with_leaves : List Leaf → List Leaf → List Leaf
with_leaves [] leaves = leaves
with_leaves (l ∷ more) leaves = with_leaves more (with_leaf l leaves)
