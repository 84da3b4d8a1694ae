-- What a whole survey finds, which reads the history and no leaf of a table, and why it finds nothing.
use Rattle.std.specs.Prelude.{◌≡◌, ◌⊎◌, ℕ, ◌<◌, false, List, ◌++◌, length, map, Option, Some, None}
use Rattle.device_layout.specs.declared.addr.Addr.{Addr}
use Rattle.device_layout.specs.declared.slot.Slot.{Slot}
use Rattle.block_mgr.specs.declared.found.Found.{Found}
use Rattle.block_mgr.specs.Blocks.{Books}
use Rattle.block_mgr.specs.Open.{AreStored, found_at}
use Rattle.stored.specs.Records.{Record, TableRoot, IsRecord}
use Rattle.device_leaf.specs.declared.place.Place.{Place}
use Rattle.device_leaf.specs.Damage.{SlotSpoils}
use Rattle.tree_open.specs.declared.place.Upper.{Upper}
use Rattle.hist_open.specs.declared.history.History.{History}
use Rattle.hist_open.specs.Trees.{IsRead}
use Rattle.hist_open.specs.Damage.{HistorySpoils}
use Rattle.recover_open.specs.declared.wholes.Whole.{Whole}
use Rattle.recover_open.specs.declared.wholes.SurveyedWhole.{SurveyedWhole}
use Rattle.recover_open.specs.Bare.{HaveUppers, AllClimb}
use Rattle.recover_open.specs.Damage.{Names, IsAmong, CannotStand, RecordSpoils, TreeSpoils, found_there, uppers_found}
use Rattle.recover_open.specs.Recoveries.{Counts, KeepsNone}

-- the block of the record, those of the trees, by table, and then those of the history
abbrev pub whole_found : Slot → List Upper → List Addr → List Found
whole_found slot uppers history = uppers_found slot uppers ++ map found_there history

-- What was surveyed is what the device holds but for the leaves of the tables: the slot, its record, what the tree of each table has above its leaves, the history, and the books of all blocks, which can be in use side by side.
pub record SurveysWhole (bytes : List ℕ) (place : Place) (w : Whole) : Type 0 where
  pub slot : Slot
  pub stands : place.slot ≡ Some slot
  pub names : Names bytes slot w.record
  pub have : HaveUppers bytes w.record.tables w.uppers.items
  pub history : IsRead bytes w.record.history w.history
  pub stored : AreStored (whole_found slot w.uppers.items w.history.addrs.items) (length bytes)
  pub books : Counts (whole_found slot w.uppers.items w.history.addrs.items) place.blocks
  pub unsynced : place.blocks.is_synced ≡ false

abbrev pub SurveysWholeOr : List ℕ → Place → Option Whole → Type 0
SurveysWholeOr bytes place None = KeepsNone bytes place
SurveysWholeOr bytes place (Some w) = SurveysWhole bytes place w

abbrev pub IsSurveyedWhole : List ℕ → SurveyedWhole → Type 0
IsSurveyedWhole bytes o = SurveysWholeOr bytes o.place o.whole

-- whatever the disk, the record is one of a checkpoint, and each table has the entries of its leaves in the order of their keys
pub record WholeInForm (w : Whole) : Type 0 where
  pub is_record : IsRecord w.record
  pub climb : AllClimb w.uppers.items
  pub count : length w.uppers.items ≡ length w.record.tables

abbrev pub InFormWhole : Option Whole → Type 0
InFormWhole None = Unit {0}
InFormWhole (Some w) = WholeInForm w

-- what a whole survey can find of these bytes
abbrev pub CanSurveyWhole : List ℕ → Type 0
CanSurveyWhole bytes = (place : Place) × (w : Whole) × SurveysWhole bytes place w

-- ---- where a device is damaged

-- damage of a table's tree
pub record TableSpoils (bytes : List ℕ) (at want found : ℕ) : Type 0 where
  pub slot : Slot
  pub names : Record
  pub there : Names bytes slot names
  pub table : TableRoot
  pub among : IsAmong names.tables table
  pub tree : TreeSpoils bytes table.root at want found

-- damage of the history
pub record HistoryIsSpoilt (bytes : List ℕ) (at want found : ℕ) : Type 0 where
  pub slot : Slot
  pub names : Record
  pub there : Names bytes slot names
  pub spoils : HistorySpoils bytes names.history at want found

-- Blocks that cannot all be in use, told of the first that cannot stand beside those before it, with its sum twice: the inner pages and the history are there, and say where all blocks are to stand.
pub record WholeMeets (bytes : List ℕ) (at want found : ℕ) : Type 0 where
  pub slot : Slot
  pub names : Record
  pub there : Names bytes slot names
  pub uppers : List Upper
  pub have : HaveUppers bytes names.tables uppers
  pub history : History
  pub read : IsRead bytes names.history history
  pub index : ℕ
  pub within : index < length (whole_found slot uppers history.addrs.items)
  pub place : at ≡ (found_at (whole_found slot uppers history.addrs.items) index).addr.offset
  pub sum : want ≡ (found_at (whole_found slot uppers history.addrs.items) index).addr.sum
  pub same : found ≡ want
  pub why : CannotStand (whole_found slot uppers history.addrs.items) (length bytes) index

-- The device is damaged at an offset: one sum is wanted there, and the other found. The two are the same where the sum is not at fault.
abbrev pub IsWholeDamage : List ℕ → (at want found : ℕ) → Type 0
IsWholeDamage bytes at want found = SlotSpoils bytes at want found ⊎ (RecordSpoils bytes at want found ⊎ (TableSpoils bytes at want found ⊎ (HistoryIsSpoilt bytes at want found ⊎ WholeMeets bytes at want found)))

-- ---- the steps of a whole survey

-- what a whole survey can find at this slot
abbrev pub HasWhole : List ℕ → Slot → Type 0
HasWhole bytes slot = (r : Record) × (uppers : List Upper) × (h : History) × Names bytes slot r × HaveUppers bytes r.tables uppers × IsRead bytes r.history h × AreStored (whole_found slot uppers h.addrs.items) (length bytes)

-- what is put together of a record, what its trees have above their leaves, the history, and the books
pub record IsJoined (slot : Slot) (r : Record) (uppers : List Upper) (h : History) (books : Books) (o : SurveyedWhole) : Type 0 where
  pub slot_is : o.place.slot ≡ Some slot
  pub blocks_are : o.place.blocks ≡ books
  pub whole : Whole
  pub is : o.whole ≡ Some whole
  pub names : whole.record ≡ r
  pub uppers_are : whole.uppers.items ≡ uppers
  pub history_is : whole.history ≡ h
