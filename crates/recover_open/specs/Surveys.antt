-- What a survey finds, which reads no leaf, and why it finds nothing.
use Rattle.std.specs.Prelude.{◌≡◌, ◌⊎◌, ℕ, ◌<◌, false, List, [], length, Option, Some, None}
use Rattle.failure.specs.Counts.{Rose}
use Rattle.disk_model.specs.declared.disk.Disk.{Ghosts}
use Rattle.extent_list.specs.Space.{space_of}
use Rattle.block_mgr.specs.declared.found.Found.{Found}
use Rattle.block_mgr.specs.Blocks.{Books}
use Rattle.block_mgr.specs.Open.{AreStored, found_at}
use Rattle.device_layout.specs.declared.slot.Slot.{Slot}
use Rattle.le_codec.specs.Images.{block_of}
use Rattle.wt_code.specs.declared.refusals.Refusal.{Refusal}
use Rattle.wt_code.specs.declared.refusals.Refusal.TheVariants.{Corrupt, DiskFault, NoMemory, Limit as Refusal_Limit}
use Rattle.wt_code.specs.declared.refusals.Limit.TheVariants.{Image}
use Rattle.stored.specs.Records.{Record, TableRoot, record_image, IsRecord}
use Rattle.stored.specs.Stored.{Stored, IsOn, IsBlank}
use Rattle.device_leaf.specs.declared.place.Place.{Place}
use Rattle.tree_open.specs.declared.place.Upper.{Upper}
use Rattle.recover_open.specs.declared.surveying.Above.{Above}
use Rattle.recover_open.specs.declared.surveying.Surveyed.{Surveyed}
use Rattle.recover_open.specs.Bare.{IsBare, HaveUppers, AllClimb}
use Rattle.recover_open.specs.Damage.{Names, CannotStand, HasNoRecord, IsDamage, uppers_found}
use Rattle.recover_open.specs.Recoveries.{Counts, KeepsNone}

-- What was surveyed is what the device holds but for the leaves: the slot, its record, what the tree of each table has above its leaves, and the books of all blocks, which can be in use side by side. Leaves that are there make it the device's content.
pub record Surveys (bytes : List ℕ) (place : Place) (a : Above) : Type 0 where
  pub slot : Slot
  pub stands : place.slot ≡ Some slot
  pub names : Names bytes slot a.record
  pub bare : IsBare a.record
  pub have : HaveUppers bytes a.record.tables a.uppers.items
  pub stored : AreStored (uppers_found slot a.uppers.items) (length bytes)
  pub books : Counts (uppers_found slot a.uppers.items) place.blocks
  pub unsynced : place.blocks.is_synced ≡ false

abbrev pub SurveysOr : List ℕ → Place → Option Above → Type 0
SurveysOr bytes place None = KeepsNone bytes place
SurveysOr bytes place (Some a) = Surveys bytes place a

abbrev pub IsSurveyed : List ℕ → Surveyed → Type 0
IsSurveyed bytes o = SurveysOr bytes o.place o.above

-- whatever the disk, the record is one of a bare checkpoint, and each table has the entries of its leaves in the order of their keys
pub record AboveInForm (a : Above) : Type 0 where
  pub is_record : IsRecord a.record
  pub bare : IsBare a.record
  pub climb : AllClimb a.uppers.items
  pub count : length a.uppers.items ≡ length a.record.tables

abbrev pub InFormAbove : Option Above → Type 0
InFormAbove None = Unit {0}
InFormAbove (Some a) = AboveInForm a

-- Why a survey finds nothing: fault says that the disk's count of faults rose, known that what it holds is known.
abbrev pub SurveyRefused : (fault known : Type 0) → List ℕ → Refusal → Type 0
SurveyRefused fault known bytes r =
    ((r ≡ DiskFault) × fault)
    ⊎ ((r ≡ NoMemory)
    ⊎ (((r ≡ Refusal_Limit Image) × (known → (s : Stored) → IsOn bytes s → IsBare s.kept → ⊥) × (known → IsBlank bytes → ⊥))
    ⊎ ((at : ℕ) × (want : ℕ) × (found : ℕ) × (r ≡ Corrupt at want found) × (known → IsDamage bytes at want found))))

-- the same of a disk, before and after
abbrev pub RefusesSurvey : {D : Type 0} → Ghosts D → (known : Type 0) → D → D → Refusal → Type 0
RefusesSurvey g known old new r = SurveyRefused (Rose (g.faults old) (g.faults new)) known (g.seen old) r

-- what a survey can find of these bytes
abbrev pub CanSurvey : List ℕ → Type 0
CanSurvey bytes = (place : Place) × (a : Above) × Surveys bytes place a

-- a fault of the disk, or want of memory
abbrev pub IsOfDisk : Refusal → Type 0
IsOfDisk r = (r ≡ DiskFault) ⊎ (r ≡ NoMemory)

-- ---- the steps of a survey

-- the slot names a record
abbrev pub HasRecord : List ℕ → Slot → Type 0
HasRecord bytes slot = (r : Record) × Names bytes slot r

-- the slot names a bare record
abbrev pub HasBareRecord : List ℕ → Slot → Type 0
HasBareRecord bytes slot = (r : Record) × Names bytes slot r × IsBare r

-- each of these tables has inner pages
abbrev pub CanHaveUppers : List ℕ → List TableRoot → Type 0
CanHaveUppers bytes tables = (uppers : List Upper) × HaveUppers bytes tables uppers

-- what a survey can find at this slot
abbrev pub HasAbove : List ℕ → Slot → Type 0
HasAbove bytes slot = (r : Record) × (uppers : List Upper) × Names bytes slot r × IsBare r × HaveUppers bytes r.tables uppers × AreStored (uppers_found slot uppers) (length bytes)

-- of the slot's sequence
pub record IsOwn (slot : Slot) (r : Record) : Type 0 where
  pub is_record : IsRecord r
  pub sequence : r.sequence ≡ slot.sequence

-- the same, and bare
pub record IsSound (slot : Slot) (r : Record) : Type 0 where
  pub is_record : IsRecord r
  pub sequence : r.sequence ≡ slot.sequence
  pub bare : IsBare r

-- the record of a block, of the slot's sequence
pub record IsRecordOf (slot : Slot) (block : List ℕ) (r : Record) : Type 0 where
  pub own : IsOwn slot r
  pub is : block ≡ block_of (record_image r)

-- why the record of a slot is not read
abbrev pub RecordRefused : Slot → List ℕ → Refusal → Type 0
RecordRefused slot block r = (r ≡ NoMemory) ⊎ ((r ≡ Corrupt slot.offset slot.sum slot.sum) × HasNoRecord slot block)

-- why the books of these blocks are not made: one cannot be in use beside those before it, on a device of this length
abbrev pub RefusesBlocks : List Found → ℕ → Refusal → Type 0
RefusesBlocks found len r =
    (r ≡ NoMemory)
    ⊎ ((i : ℕ) × (i < length found) × (r ≡ Corrupt (found_at found i).addr.offset (found_at found i).addr.sum (found_at found i).addr.sum) × CannotStand found len i)

-- what is put together of a record, what its trees have above their leaves, and the books
pub record IsPutTogether (slot : Slot) (r : Record) (uppers : List Upper) (books : Books) (o : Surveyed) : Type 0 where
  pub slot_is : o.place.slot ≡ Some slot
  pub blocks_are : o.place.blocks ≡ books
  pub above : Above
  pub is : o.above ≡ Some above
  pub names : above.record ≡ r
  pub uppers_are : above.uppers.items ≡ uppers

-- what is found where no checkpoint was completed
pub record IsBlankSurvey (o : Surveyed) : Type 0 where
  pub none : o.above ≡ None
  pub slot : o.place.slot ≡ None
  pub space : o.place.blocks.space ≡ space_of []
  pub unsynced : o.place.blocks.is_synced ≡ false
  pub books : Counts [] o.place.blocks
