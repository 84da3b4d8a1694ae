-- What an address may be, and what a device has there.
use Rattle.std.specs.Prelude.{◌≡◌, ◌⊎◌, ℕ, ◌+◌, ◌<◌, ◌≤◌, ◌%◌, ◌^◌, List, length}
use Rattle.disk_model.specs.Ranges.{range}
use Rattle.block_sum.specs.Sum.{sum_of}
use Rattle.device_layout.specs.declared.addr.Addr.{Addr}

-- an address that a block can have
pub record IsPlace (addr : Addr) : Type 0 where
  pub behind : 8192 ≤ addr.offset
  pub unit : addr.offset % 4096 ≡ 0
  pub some : 4096 ≤ addr.size
  pub whole : addr.size % 4096 ≡ 0
  pub most : addr.size ≤ 2 ^ 20

-- the device reaches over the block, whose sum is that of its address
pub record IsThere (bytes : List ℕ) (addr : Addr) : Type 0 where
  pub place : IsPlace addr
  pub within : addr.offset + addr.size ≤ length bytes
  pub sum : sum_of (range bytes addr.offset addr.size) ≡ addr.sum

-- why a block is refused: its sum is another one, or there can be none at its address
abbrev pub Spoils : List ℕ → Addr → ℕ → Type 0
Spoils bytes addr found =
    (IsPlace addr × (addr.offset + addr.size ≤ length bytes) × (found ≡ sum_of (range bytes addr.offset addr.size)) × (found ≡ addr.sum → ⊥))
    ⊎ ((found ≡ addr.sum) × (IsPlace addr → length bytes < addr.offset + addr.size))
