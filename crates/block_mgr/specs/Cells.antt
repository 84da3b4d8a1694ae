-- The table of the blocks in use, a cell for each unit, and what the calls make of it. Units are counted from offset 8,192.
use Rattle.std.specs.Prelude.{◌≡◌, ◌⊎◌, ℕ, ◌+◌, ◌-◌, ◌*◌, ◌^◌, ◌<◌, ◌≤◌, Bool, true, false, ◌||◌, List, length, map, slice_index_or, slice_set, if◌then◌else◌, nat_lt}
use Rattle.extent_list.specs.Space.{Space, end_of, Taken}
use Rattle.block_mgr.specs.declared.cell.Cell.{Cell}

-- no block begins here
abbrev pub nothing : Cell
nothing = record { units = 0; is_live = false; is_running = false; is_last = false; names = 0 }

-- the cell at a unit
abbrev pub cell_at : List Cell → ℕ → Cell
cell_at cells u = slice_index_or cells u nothing

-- someone has the block
abbrev pub is_used : Cell → Bool
is_used c = c.is_live || (c.is_running || (c.is_last || nat_lt 0 c.names))

-- a cell, or nothing where nobody has its block
abbrev pub kept : Cell → Cell
kept c = if is_used c then c else nothing

-- the live tree has the block at a unit
abbrev pub IsLive : List Cell → ℕ → Type 0
IsLive cells u = (cell_at cells u).is_live ≡ true

-- a block of the live tree alone, of so many units
abbrev pub fresh : ℕ → Cell
fresh n = record { units = n; is_live = true; is_running = false; is_last = false; names = 0 }

-- nobody but the live tree has the block
pub record IsLiveAlone (c : Cell) : Type 0 where
  pub idle : c.is_running ≡ false
  pub past : c.is_last ≡ false
  pub unnamed : c.names ≡ 0

-- one named checkpoint has the block, and nobody else
pub record IsNamedAlone (c : Cell) : Type 0 where
  pub others : is_used (record c { names = 0 }) ≡ false
  pub one : c.names ≡ 1

-- the running checkpoint captures the block at a unit
abbrev pub captured : List Cell → ℕ → List Cell
captured cells u = slice_set cells u (record (cell_at cells u) { is_running = true })

-- the live tree lets go of the block at a unit
abbrev pub freed : List Cell → ℕ → List Cell
freed cells u = slice_set cells u (kept (record (cell_at cells u) { is_live = false }))

-- the running checkpoint is the last completed one
abbrev pub done_cell : Cell → Cell
done_cell c = kept (record c { is_running = false; is_last = c.is_running })

abbrev pub done : List Cell → List Cell
done cells = map done_cell cells

-- the running checkpoint is given up
abbrev pub dropped_cell : Cell → Cell
dropped_cell c = kept (record c { is_running = false })

abbrev pub dropped : List Cell → List Cell
dropped cells = map dropped_cell cells

-- the end of the running checkpoint, complete or not
abbrev pub ended_cell : Bool → Cell → Cell
ended_cell true c = done_cell c
ended_cell false c = dropped_cell c

-- the last completed checkpoint has the block, and one more name can be counted
abbrev pub MayBeNamed : Cell → Type 0
MayBeNamed c = (c.is_last ≡ true) × (c.names + 1 < 2 ^ 32)

-- a named checkpoint takes the block at a unit, and lets go of it
abbrev pub named : List Cell → ℕ → List Cell
named cells u = slice_set cells u (record (cell_at cells u) { names = (cell_at cells u).names + 1 })

abbrev pub unnamed : List Cell → ℕ → List Cell
unnamed cells u = slice_set cells u (kept (record (cell_at cells u) { names = (cell_at cells u).names - 1 }))

-- this cell stands at a unit, among so many, and the other cells are as they were
pub record Put (old new : List Cell) (total u : ℕ) (next : Cell) : Type 0 where
  pub here : cell_at new u ≡ next
  pub others : (v : ℕ) → (v ≡ u → ⊥) → cell_at new v ≡ cell_at old v
  pub long : length new ≡ total

-- the cells of a device, and its free units
pub record Holdings : Type 0 where
  pub cells : List Cell
  pub space : Space

-- a block of the live tree alone was placed at a unit
abbrev pub IsPlaced : Holdings → Holdings → ℕ → ℕ → ℕ → Type 0
IsPlaced old new u n capacity = Taken old.space new.space (4096 * n) capacity (8192 + 4096 * u) × Put old.cells new.cells (length new.space.units) u (fresh n)

-- the unit lies in the block that begins at another, or at itself
abbrev pub Covers : List Cell → ℕ → ℕ → Type 0
Covers cells u v = (u ≤ v) × (v < u + (cell_at cells u).units)

-- each unit before the end is free or in exactly one block, and someone has each block
pub record AreUnits (cells : List Cell) (space : Space) : Type 0 where
  pub small : end_of space < 2 ^ 64
  pub long : length cells ≡ length space.units
  pub within : (u : ℕ) → 1 ≤ (cell_at cells u).units → u + (cell_at cells u).units ≤ length space.units
  pub apart : (u v : ℕ) → u < v → 1 ≤ (cell_at cells v).units → u + (cell_at cells u).units ≤ v
  pub held : (u v : ℕ) → Covers cells u v → slice_index_or space.units v false ≡ true → ⊥
  pub all : (v : ℕ) → v < length space.units → (slice_index_or space.units v false ≡ true) ⊎ ((u : ℕ) × Covers cells u v)
  pub used : (u : ℕ) → 1 ≤ (cell_at cells u).units → is_used (cell_at cells u) ≡ true
  pub empty : (u : ℕ) → (cell_at cells u).units ≡ 0 → cell_at cells u ≡ nothing
