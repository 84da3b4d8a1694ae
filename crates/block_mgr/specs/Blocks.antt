-- The blocks in use, by their offsets and sizes in bytes.
use Rattle.std.specs.Prelude.{◌≡◌, ℕ, ◌+◌, ◌-◌, ◌*◌, ◌/◌, ◌≤◌, Bool, true, List}
use Rattle.extent_list.specs.Space.{Space}
use Rattle.block_mgr.specs.declared.cell.Cell.{Cell}
use Rattle.block_mgr.specs.Cells.{MayBeNamed, cell_at, is_used}

-- what the manager is seen as: the blocks in use, a cell for each unit; the free units and the end; whether the disk was synced since the opening; and whether a checkpoint runs
pub record Books : Type 0 where
  pub cells : List Cell
  pub space : Space
  pub is_synced : Bool
  pub is_held : Bool

-- the unit at an offset
abbrev pub unit_of : ℕ → ℕ
unit_of offset = (offset - 8192) / 4096

-- a block of this offset and size is in use, and its cell has P
abbrev pub HasCell : (Cell → Type 0) → List Cell → ℕ → ℕ → Type 0
HasCell P cells offset size = (u : ℕ) × (offset ≡ 8192 + 4096 * u) × (size ≡ 4096 * (cell_at cells u).units) × P (cell_at cells u)

-- someone has it
abbrev pub Has : List Cell → ℕ → ℕ → Type 0
Has = HasCell (λ c. is_used c ≡ true)

-- the live tree has it
abbrev pub HasLive : List Cell → ℕ → ℕ → Type 0
HasLive = HasCell (λ c. c.is_live ≡ true)

-- the running checkpoint has captured it
abbrev pub HasRunning : List Cell → ℕ → ℕ → Type 0
HasRunning = HasCell (λ c. c.is_running ≡ true)

-- the last completed checkpoint has it
abbrev pub HasLast : List Cell → ℕ → ℕ → Type 0
HasLast = HasCell (λ c. c.is_last ≡ true)

-- a named checkpoint has it
abbrev pub HasName : List Cell → ℕ → ℕ → Type 0
HasName = HasCell (λ c. 1 ≤ c.names)

-- the last completed checkpoint has it, and a named one may take it
abbrev pub MayName : List Cell → ℕ → ℕ → Type 0
MayName = HasCell MayBeNamed
