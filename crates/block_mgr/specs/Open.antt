-- The blocks of a device that is opened.
use Rattle.std.specs.Prelude.{◌≡◌, ◌⊎◌, ℕ, ◌+◌, ◌*◌, ◌/◌, ◌<◌, ◌≤◌, ◌||◌, ◌==◌, max, true, false, List, length, slice_index_or, if◌then◌else◌}
use Rattle.std.specs.List.{fold}
use Rattle.device_layout.specs.declared.addr.Addr.{Addr}
use Rattle.block_mgr.specs.declared.cell.Cell.{Cell}
use Rattle.block_mgr.specs.declared.found.Found.{Found}
use Rattle.block_mgr.specs.declared.found.Holder.TheVariants.{Tree}
use Rattle.block_mgr.specs.declared.found.OpenError.{OpenError}
use Rattle.block_mgr.specs.declared.found.OpenError.TheVariants.{Clash}
use Rattle.block_mgr.specs.Blocks.{unit_of}
use Rattle.block_mgr.specs.Cells.{cell_at, nothing}
use Rattle.block_mgr.specs.Found.{lasts, lives, name_count}
use Rattle.block_mgr.specs.Places.{IsPlace}

abbrev pub no_found : Found
no_found = record { addr = record { offset = 0; size = 0; sum = 0 }; holder = Tree }

-- the address of an index
abbrev pub found_at : List Found → ℕ → Found
found_at found i = slice_index_or found i no_found

-- the cell where an address begins
abbrev pub cell_of : List Cell → Found → Cell
cell_of cells f = cell_at cells (unit_of f.addr.offset)

-- the block of a cell has the size of an address
abbrev pub HasSize : Cell → Found → Type 0
HasSize c f = c.units ≡ f.addr.size / 4096

-- an address is that of the block, and at most one of the two is the last completed checkpoint's
abbrev pub MayShare : Cell → Found → Type 0
MayShare c f = HasSize c f × ((lasts f.holder ≡ false) ⊎ (c.is_last ≡ false))

-- both are the last completed checkpoint's
abbrev pub AreBothLast : Cell → Found → Type 0
AreBothLast c f = (lasts f.holder ≡ true) × (c.is_last ≡ true)

-- the cell of a block, once an address of it was found
abbrev pub joined : Cell → Found → Cell
joined c f = record { units = f.addr.size / 4096; is_live = lives f.holder || c.is_live; is_running = false; is_last = lasts f.holder || c.is_last; names = c.names + name_count f.holder }

-- the same, where the address is at a unit
abbrev pub with_found : ℕ → Cell → Found → Cell
with_found u c f = if f.addr.offset == 8192 + 4096 * u then joined c f else c

-- the cell at a unit: that of the addresses there, one after the other
abbrev pub found_cell : List Found → ℕ → Cell
found_cell found u = fold (with_found u) nothing found

-- where the last block ends; the slots' end where there is none
abbrev pub last_end : List Found → ℕ
last_end found = fold {A = Found} {B = ℕ} (λ end f. max end (f.addr.offset + f.addr.size)) 8192 found

-- two blocks do not meet
abbrev pub AreApart : Addr → Addr → Type 0
AreApart x y = (x.offset + x.size ≤ y.offset) ⊎ (y.offset + y.size ≤ x.offset)

-- one block, which a named checkpoint shares
pub record AreShared (x y : Found) : Type 0 where
  pub offset : x.addr.offset ≡ y.addr.offset
  pub size : x.addr.size ≡ y.addr.size
  pub shared : (lasts x.holder ≡ false) ⊎ (lasts y.holder ≡ false)

-- both can be in use
abbrev pub Agree : Found → Found → Type 0
Agree x y = AreApart x.addr y.addr ⊎ AreShared x y

-- a block can stand there, within a device of this length
abbrev pub Fits : Found → ℕ → Type 0
Fits f len = IsPlace f.addr × (f.addr.offset + f.addr.size ≤ len)

-- the first k addresses agree, any two of them
abbrev pub AgreeUpTo : List Found → ℕ → Type 0
AgreeUpTo found k = (i j : ℕ) → i < j → j < k → Agree (found_at found i) (found_at found j)

-- two addresses that cannot both be in use, the lesser index first
abbrev pub Clashes : List Found → ℕ → ℕ → Type 0
Clashes found i j = (i < j) × (j < length found) × (Agree (found_at found i) (found_at found j) → ⊥)

-- the first address that clashes with one before it
abbrev pub IsFirstClash : List Found → OpenError → Type 0
IsFirstClash found error = (i : ℕ) × (j : ℕ) × (error ≡ Clash i j) × (i < j) × (j < length found) × AgreeUpTo found j × (Agree (found_at found i) (found_at found j) → ⊥)

-- addresses that can all be in use
pub record AreStored (found : List Found) (len : ℕ) : Type 0 where
  pub fit : (i : ℕ) → i < length found → Fits (found_at found i) len
  pub agree : AgreeUpTo found (length found)
