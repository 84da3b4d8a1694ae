-- What the read of a block answers.
use Rattle.std.specs.Prelude.{◌≡◌, ◌⊎◌, ℕ, List}
use Rattle.failure.specs.Counts.{Rose}
use Rattle.wt_code.specs.declared.refusals.Refusal.{Refusal}
use Rattle.wt_code.specs.declared.refusals.Refusal.TheVariants.{NoMemory, DiskFault, Corrupt}
use Rattle.disk_model.specs.Ranges.{range}
use Rattle.device_layout.specs.declared.addr.Addr.{Addr}
use Rattle.block_mgr.specs.Places.{IsThere, Spoils}

-- the device has the block at an address, and these are its bytes
abbrev pub IsBlock : List ℕ → Addr → List ℕ → Type 0
IsBlock seen addr bytes = IsThere seen addr × (bytes ≡ range seen addr.offset addr.size)

-- a block is called corrupt with its offset, the sum of its address, and why it is refused
abbrev pub IsSpoilt : List ℕ → Addr → ℕ → ℕ → ℕ → Refusal → Type 0
IsSpoilt seen addr offset want found refusal = refusal ≡ Corrupt offset want found → (offset ≡ addr.offset) × (want ≡ addr.sum) × Spoils seen addr found

-- a read is refused for want of memory, for a fault that was counted, or since the block is corrupt
abbrev pub IsRefused : Addr → ℕ → ℕ → Refusal → Type 0
IsRefused addr old new refusal = (refusal ≡ NoMemory) ⊎ ((refusal ≡ DiskFault) × Rose old new) ⊎ ((found : ℕ) × (refusal ≡ Corrupt addr.offset addr.sum found))
