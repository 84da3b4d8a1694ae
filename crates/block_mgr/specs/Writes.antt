-- What the write of a block leaves.
use Rattle.std.specs.Prelude.{◌≡◌, ◌⊎◌, ℕ, Bool, true, false, List, length, ◌+◌, ◌*◌}
use Rattle.failure.specs.declared.Fault.{Fault}
use Rattle.failure.specs.declared.Fault.TheVariants.{Write, Sync}
use Rattle.block_sum.specs.Sum.{sum_of}
use Rattle.disk_model.specs.declared.disk.Disk.{Ghosts}
use Rattle.disk_model.specs.Disk.{Torn}
use Rattle.disk_model.specs.Crash.{LeavesOnly}
use Rattle.le_codec.specs.Images.{block_of}
use Rattle.device_layout.specs.declared.addr.Addr.{Addr}
use Rattle.extent_list.specs.Space.{IsSpot}
use Rattle.block_mgr.specs.Cells.{Put, cell_at, nothing, fresh}
use Rattle.block_mgr.specs.Blocks.{Books}
use Rattle.block_mgr.specs.Places.{IsPlace}

-- what a write may begin with: an image from before, or, where a sync comes first, what is read
abbrev pub Base : Bool → List ℕ → (List ℕ → Type 0) → List ℕ → Type 0
Base true seen images d = images d
Base false seen images d = d ≡ seen

-- such an image after a write of n bytes that a crash cut short, or that it did not
abbrev pub FromBase : Bool → ℕ → ℕ → List ℕ → (List ℕ → Type 0) → List ℕ → Type 0
FromBase is_synced at n seen images c = (d : List ℕ) × Base is_synced seen images d × Torn at n d c

-- at any moment of a store: an image from before, or such a one
abbrev pub Stored : Bool → ℕ → ℕ → List ℕ → (List ℕ → Type 0) → List ℕ → Type 0
Stored is_synced at n seen images c = images c ⊎ FromBase is_synced at n seen images c

-- at any moment of the write of a block of n bytes: an image from before, or one with any part of a write at the place that the books give to the block, and there alone
abbrev pub Wrote : Books → ℕ → ℕ → List ℕ → (List ℕ → Type 0) → List ℕ → Type 0
Wrote books n capacity seen images c = images c ⊎ ((at : ℕ) × IsSpot books.space n capacity at × FromBase books.is_synced at n seen images c)

-- the bytes of the block of an image
abbrev pub block_len : List ℕ → ℕ
block_len image = length (block_of image)

-- what a call leaves that wrote a block of n bytes, or tried to
abbrev pub LeavesWrite : {D : Type 0} → Ghosts D → Books → ℕ → D → D → Type 0
LeavesWrite g books n old new = LeavesOnly g old new (Wrote books n (g.capacity old) (g.seen old) (g.may_leave old))

-- which call of a store failed: the write at its offset; or the sync before it, where the disk was not synced yet and nothing was written
abbrev pub StoreFault : {D : Type 0} → Ghosts D → Bool → ℕ → D → D → Fault → Type 0
StoreFault g is_synced at old new (Write offset) = offset ≡ at
StoreFault g is_synced at old new Sync = (is_synced ≡ false) × LeavesOnly g old new (g.may_leave old)

-- the address of a block: a place of its size, and the sum of its bytes
pub record IsAddress (block : List ℕ) (addr : Addr) : Type 0 where
  pub place : IsPlace addr
  pub size : addr.size ≡ length block
  pub sum : addr.sum ≡ sum_of block

-- the live tree alone has a block at the address, where none was, and the other blocks are as they were
pub record Added (old new : Books) (addr : Addr) : Type 0 where
  pub unit : ℕ
  pub units : ℕ
  pub offset : addr.offset ≡ 8192 + 4096 * unit
  pub size : addr.size ≡ 4096 * units
  pub none : cell_at old.cells unit ≡ nothing
  pub put : Put old.cells new.cells (length new.space.units) unit (fresh units)
