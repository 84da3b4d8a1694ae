-- What is found on a device of its slot, its record and a leaf, and where these are damaged.
use Rattle.std.specs.Prelude.{◌≡◌, ◌⊎◌, ℕ, ◌≤◌, List, length, Some}
use Rattle.device_layout.specs.declared.link.Link.{Link}
use Rattle.device_layout.specs.declared.slot.Slot.{Slot}
use Rattle.device_layout.specs.Slots.{addr_in}
use Rattle.turtle.specs.Slots.{Chooses, IsCorruptAt}
use Rattle.block_mgr.specs.declared.found.Found.{Found}
use Rattle.block_mgr.specs.declared.found.Holder.TheVariants.{Tree, Last}
use Rattle.block_mgr.specs.Places.{Spoils}
use Rattle.device_leaf.specs.Leaves.{NoLeaf}

-- no leaf is there, and this was found: another sum than the link says, or the same
abbrev pub FoundNoLeaf : List ℕ → Link → ℕ → Type 0
FoundNoLeaf bytes link found = NoLeaf bytes link × (Spoils bytes link.addr found ⊎ (found ≡ link.addr.sum))

-- the block of the record, which the last checkpoint alone has, and that of a leaf
abbrev pub record_found : Slot → Found
record_found slot = record { addr = addr_in slot; holder = Last }

abbrev pub leaf_found : Link → Found
leaf_found link = record { addr = link.addr; holder = Tree }

-- the device is long enough for its slots, and this one is chosen of them
pub record IsChosen (bytes : List ℕ) (slot : Slot) : Type 0 where
  pub long : 8192 ≤ length bytes
  pub chooses : Chooses bytes (Some slot)

-- a slot that is out of form, told with no sums
pub record SlotSpoils (bytes : List ℕ) (at want found : ℕ) : Type 0 where
  pub corrupt : IsCorruptAt bytes at
  pub sums : (want ≡ 0) × (found ≡ 0)
