-- A device that has a checkpoint, while a further one is written.
use Rattle.std.specs.Prelude.{◌≡◌, ℕ, List, [], ◌++◌, Option, Some, None, IsTrue}
use Rattle.std.specs.List.{AllByRecursion}
use Rattle.disk_model.specs.Crash.{Each}
use Rattle.block_mgr.specs.Blocks.{Books, Has}
use Rattle.block_mgr.specs.declared.cell.Cell.{Cell}
use Rattle.device_layout.specs.declared.addr.Addr.{Addr}
use Rattle.device_layout.specs.declared.slot.Slot.{Slot}
use Rattle.device_layout.specs.Slots.{slot_at}
use Rattle.stored.specs.Blocks.{Block, IsAddressed, Holds, Apart}
use Rattle.stored.specs.Tree.{IsTree}
use Rattle.stored.specs.HistoryTree.{history_kind, history_root_entry}
use Rattle.stored.specs.Records.{IsRecord, record_image}
use Rattle.stored.specs.Stored.{Stored, AreTrees, tables_blocks, history_blocks, stored_blocks, IsWhole, IsOn, IsBlank}

-- the device has the checkpoint, or none
abbrev pub HasStill : Option Stored → List ℕ → Type 0
HasStill None bytes = IsBlank bytes
HasStill (Some s) bytes = IsOn bytes s

abbrev pub chosen_of : Option Stored → Option Slot
chosen_of None = None
chosen_of (Some s) = Some s.slot

abbrev pub blocks_of : Option Stored → List Block
blocks_of None = []
blocks_of (Some s) = stored_blocks s

-- each block is in use
abbrev pub AreInUse : List Cell → List Block → Type 0
AreInUse used blocks = AllByRecursion (λ (b : Block). Has used b.place.offset b.place.size) blocks

-- What a read gives has the checkpoint, and once the disk was synced each image has it. Its blocks are in use.
pub record Stands (seen : List ℕ) (images : List ℕ → Type 0) (books : Books) (old : Option Stored) : Type 0 where
  pub seen_has : HasStill old seen
  pub images_have : IsTrue books.is_synced → Each images (HasStill old)
  pub in_use : AreInUse books.cells (blocks_of old)

-- the blocks of a checkpoint but that of its record
abbrev pub body_blocks : Stored → List Block
body_blocks s = tables_blocks s.kept.tables s.trees ++ history_blocks s.kept s.history

-- All of a checkpoint but the block of its record is on the device, and its blocks are in use. image: that of the record.
pub record IsReady (seen : List ℕ) (books : Books) (image : List ℕ) (s : Stored) : Type 0 where
  pub is_record : IsRecord s.kept
  pub is_image : image ≡ record_image s.kept
  pub trees : AreTrees s.kept.tables s.trees
  pub history : IsTree history_kind s.kept.history.level (history_root_entry s.kept.history.link) s.history
  pub addressed : AllByRecursion (λ (b : Block). IsAddressed b) (body_blocks s)
  pub apart : Apart (body_blocks s)
  pub holds : Holds seen (body_blocks s)
  pub in_use : AreInUse books.cells (body_blocks s)

-- the checkpoint, whose record stands at an address
abbrev pub placed_at : Stored → Addr → Stored
placed_at s a = record s { slot = slot_at s.kept.sequence a }

-- All of both is on the device, but that the slots choose the old one. Each image has the old one.
pub record IsWritten (seen : List ℕ) (images : List ℕ → Type 0) (old : Option Stored) (new : Stored) : Type 0 where
  pub seen_has : HasStill old seen
  pub images_have : Each images (HasStill old)
  pub whole : IsWhole new
  pub holds : Holds seen (stored_blocks new)
