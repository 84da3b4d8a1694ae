-- The units of the blocks that a checkpoint has, the running or the last completed one, as a list.
use Rattle.std.specs.Prelude.{◌≡◌, ℕ, ◌<◌, ◌≤◌, Bool, false, ◌||◌, nat_eq, List, length, slice_index_or}
use Rattle.std.specs.List.{list_any, IsDistinct}
use Rattle.block_mgr.specs.declared.cell.Cell.{Cell}
use Rattle.block_mgr.specs.Cells.{cell_at}

-- the running checkpoint or the last completed one has the block
abbrev pub is_marked : Cell → Bool
is_marked c = c.is_running || c.is_last

-- the unit of an index of the list
abbrev pub unit_in : List ℕ → ℕ → ℕ
unit_in marked i = slice_index_or marked i 0

-- the list has each such unit once, and no other; there is room for all units
pub record Listed (cells : List Cell) (marked : List ℕ) (most : ℕ) : Type 0 where
  pub exact : (u : ℕ) → list_any (nat_eq u) marked ≡ is_marked (cell_at cells u)
  pub distinct : IsDistinct nat_eq marked
  pub room : length cells ≤ most

-- the list of the first u units, which is no longer than they are many
pub record ListedTo (cells : List Cell) (marked : List ℕ) (u : ℕ) : Type 0 where
  pub below : (v : ℕ) → v < u → list_any (nat_eq v) marked ≡ is_marked (cell_at cells v)
  pub none : (v : ℕ) → u ≤ v → list_any (nat_eq v) marked ≡ false
  pub distinct : IsDistinct nat_eq marked
  pub few : length marked ≤ u
