-- Blocks that the live tree alone has, put where none were.
use Rattle.std.specs.Prelude.{◌≡◌, ℕ, ◌+◌, ◌*◌, ◌/◌, ◌==◌, List, if◌then◌else◌}
use Rattle.std.specs.List.{fold, AllByRecursion}
use Rattle.block_mgr.specs.declared.cell.Cell.{Cell}
use Rattle.block_mgr.specs.Blocks.{Books}
use Rattle.block_mgr.specs.Cells.{cell_at, fresh}
use Rattle.device_layout.specs.declared.addr.Addr.{Addr}
use Rattle.tree_write.specs.Captures.{AreDistinct, IsPlaced}

-- the cell at a unit, once a block that the live tree alone has stands at an address
abbrev pub with_fresh : ℕ → Cell → Addr → Cell
with_fresh u c a = if a.offset == 8192 + 4096 * u then fresh (a.size / 4096) else c

-- and once one stands at each of these
abbrev pub with_all_fresh : ℕ → Cell → List Addr → Cell
with_all_fresh u c addrs = fold (with_fresh u) c addrs

-- At each of these addresses the live tree alone has a block now. Each leads to where no block began, no two begin at one place, and the other blocks are as they were.
pub record AreAdded (books : Books) (addrs : List Addr) (books' : Books) : Type 0 where
  pub placed : AllByRecursion (λ (a : Addr). IsPlaced books a) addrs
  pub distinct : AreDistinct addrs
  pub cells : (u : ℕ) → cell_at books'.cells u ≡ with_all_fresh u (cell_at books.cells u) addrs
