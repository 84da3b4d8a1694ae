-- Why a leaf is not loaded, and what a place keeps of a device.
use Rattle.std.specs.Prelude.{◌≡◌, ◌⊎◌, ℕ, ◌≤◌, ◌-◌, ◌^◌, false, List, length, Option}
use Rattle.extent_list.specs.Space.{end_of}
use Rattle.block_mgr.specs.declared.found.Found.{Found}
use Rattle.block_mgr.specs.Cells.{AreUnits, cell_at}
use Rattle.block_mgr.specs.Blocks.{Books}
use Rattle.block_mgr.specs.Open.{found_cell, last_end}
use Rattle.device_layout.specs.declared.link.Link.{Link}
use Rattle.wt_code.specs.declared.refusals.Refusal.{Refusal}
use Rattle.wt_code.specs.declared.refusals.Refusal.TheVariants.{Corrupt, DiskFault, NoMemory}
use Rattle.row_page.specs.Rows.{Row}
use Rattle.stored.specs.Stored.{Stored}
use Rattle.checkpoint_core.specs.Stands.{HasStill, chosen_of, blocks_of, AreInUse}
use Rattle.checkpoint_core.specs.Room.{IsSpaceOf}
use Rattle.device_leaf.specs.declared.place.Place.{Place}
use Rattle.device_leaf.specs.Leaves.{PageIs}
use Rattle.device_leaf.specs.Damage.{FoundNoLeaf}

-- the greatest run, and the greatest sequence
abbrev pub last_number : ℕ
last_number = 2 ^ 62 - 1

-- why the leaf is not loaded
abbrev pub LeafRefused : (fault known : Type 0) → List ℕ → Link → Refusal → Type 0
LeafRefused fault known bytes link r =
    ((r ≡ DiskFault) × fault)
    ⊎ ((r ≡ NoMemory)
    ⊎ ((found : ℕ) × (r ≡ Corrupt link.addr.offset link.addr.sum found) × (known → FoundNoLeaf bytes link found)))

-- why a block is not that of the leaf of a link
abbrev pub RefusesPage : List ℕ → Link → Refusal → Type 0
RefusesPage block link r = (r ≡ NoMemory) ⊎ ((r ≡ Corrupt link.addr.offset link.addr.sum link.addr.sum) × ((rows : List Row) → PageIs block link rows → ⊥))

-- The place keeps the slot and the books of a device that has this checkpoint, or none, and was not synced since.
pub record Serves (bytes : List ℕ) (place : Place) (old : Option Stored) : Type 0 where
  pub still : HasStill old bytes
  pub slot : place.slot ≡ chosen_of old
  pub unsynced : place.blocks.is_synced ≡ false
  pub in_use : AreInUse place.blocks.cells (blocks_of old)
  pub space : IsSpaceOf (blocks_of old) place.blocks.space
  pub within : end_of place.blocks.space ≤ length bytes

-- the books are those of the blocks that were found
pub record HasBooks (found : List Found) (books : Books) : Type 0 where
  pub cells : (u : ℕ) → cell_at books.cells u ≡ found_cell found u
  pub end : end_of books.space ≡ last_end found
  pub units : AreUnits books.cells books.space
