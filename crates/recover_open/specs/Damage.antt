-- Where a device is damaged, as far as a recovery looks.
use Rattle.std.specs.Prelude.{◌≡◌, ◌⊎◌, ℕ, ◌<◌, List, ◌∷◌, ◌++◌, length, map, slice_index_or, Option, Some}
use Rattle.std.specs.List.{flat_map}
use Rattle.disk_model.specs.Ranges.{range}
use Rattle.device_layout.specs.declared.addr.Addr.{Addr}
use Rattle.device_layout.specs.declared.slot.Slot.{Slot}
use Rattle.device_layout.specs.Slots.{addr_in}
use Rattle.le_codec.specs.Images.{block_of}
use Rattle.block_mgr.specs.declared.found.Found.{Found}
use Rattle.block_mgr.specs.declared.found.Holder.TheVariants.{Tree}
use Rattle.block_mgr.specs.Places.{IsThere, Spoils}
use Rattle.block_mgr.specs.Open.{Fits, Agree, found_at}
use Rattle.row_page.specs.Rows.{Row}
use Rattle.stored.specs.Blocks.{Block}
use Rattle.stored.specs.Tree.{tree_blocks}
use Rattle.stored.specs.TableTree.{Entry, TableTree, table_kind, first_key, root_entry}
use Rattle.stored.specs.Records.{Root, TableRoot, Record, record_image, IsRecord}
use Rattle.stored.specs.Stored.{tables_blocks}
use Rattle.device_leaf.specs.Damage.{IsChosen, SlotSpoils, record_found}
use Rattle.tree_open.specs.declared.place.Upper.{Upper}
use Rattle.tree_open.specs.Trees.{InnerIs, leaf_addrs}
use Rattle.tree_open.specs.Damage.{InnerSpoils}
use Rattle.recover_open.specs.Bare.{IsBare, HaveUppers}
use Rattle.recover_open.specs.Leaves.{AreLeaves, NoneUnder}

-- ---- the blocks in use

-- a block of a tree, by its address
abbrev pub found_there : Addr → Found
found_there a = record { addr = a; holder = Tree }

-- the blocks of a table's tree
abbrev pub tree_found : Root → TableTree → List Found
tree_found root t = map {A = Block} (λ b. found_there b.place) (tree_blocks table_kind (root_entry root.link) t)

-- the block of the record, and those of the trees, by table
abbrev pub blocks_found : Slot → List TableRoot → List TableTree → List Found
blocks_found slot tables trees = record_found slot ∷ map {A = Block} (λ b. found_there b.place) (tables_blocks tables trees)

-- the same of a tree that has this above its leaves: its inner pages, and the leaves that stand somewhere
abbrev pub upper_found : Upper → List Found
upper_found u = map found_there u.addrs.items ++ map found_there (leaf_addrs u.entries.items)

abbrev pub uppers_found : Slot → List Upper → List Found
uppers_found slot uppers = record_found slot ∷ flat_map upper_found uppers

-- ---- the record

-- the block that the slot names is there, and it is that of this record
pub record Names (bytes : List ℕ) (slot : Slot) (r : Record) : Type 0 where
  pub chosen : IsChosen bytes slot
  pub there : IsThere bytes (addr_in slot)
  pub is_record : IsRecord r
  pub is : range bytes slot.offset slot.size ≡ block_of (record_image r)
  pub sequence : r.sequence ≡ slot.sequence

-- the block is that of no record of the slot's sequence
abbrev pub HasNoRecord : Slot → List ℕ → Type 0
HasNoRecord slot block = (r : Record) → IsRecord r → r.sequence ≡ slot.sequence → block ≡ block_of (record_image r) → ⊥

-- the table is one of these
abbrev pub IsAmong : List TableRoot → TableRoot → Type 0
IsAmong tables t = (i : ℕ) × (i < length tables) × (t ≡ slice_index_or tables i t)

-- The block of this index cannot be in use beside those before it: it overlaps one, or it is where none can stand.
abbrev pub CannotStand : List Found → ℕ → ℕ → Type 0
CannotStand found len i = (Fits (found_at found i) len → ⊥) ⊎ ((j : ℕ) × (j < i) × (Agree (found_at found j) (found_at found i) → ⊥))

-- damage of the record's block: its sum is another one, or none can stand there, or it is no record of the slot
pub record RecordSpoils (bytes : List ℕ) (at want found : ℕ) : Type 0 where
  pub slot : Slot
  pub chosen : IsChosen bytes slot
  pub place : at ≡ slot.offset
  pub sum : want ≡ slot.sum
  pub why : Spoils bytes (addr_in slot) found ⊎ ((found ≡ slot.sum) × HasNoRecord slot (range bytes slot.offset slot.size))

-- ---- the trees

-- no such leaf is where the entry leads: its block has another sum than the entry says, or the same
pub record EntrySpoils (bytes : List ℕ) (e : Entry) (next : Option (List ℕ)) (at want found : ℕ) : Type 0 where
  pub none : NoneUnder bytes e next
  pub place : at ≡ e.link.addr.offset
  pub sum : want ≡ e.link.addr.sum
  pub why : Spoils bytes e.link.addr found ⊎ (found ≡ e.link.addr.sum)

-- the leaves of the entries in front are there, and that of the one behind them is the first at fault
pub record LeavesSpoil (bytes : List ℕ) (es : List Entry) (at want found : ℕ) : Type 0 where
  pub front : List Entry
  pub entry : Entry
  pub others : List Entry
  pub is : es ≡ front ++ entry ∷ others
  pub leaves : List (List Row)
  pub before : AreLeaves bytes front (Some entry.key) leaves
  pub leaf : EntrySpoils bytes entry (first_key others) at want found

-- the inner pages of the tree are there, and a leaf is at fault
pub record LeafSpoils (bytes : List ℕ) (root : Root) (at want found : ℕ) : Type 0 where
  pub es : List Entry
  pub addrs : List Addr
  pub inner : InnerIs bytes root es addrs
  pub leaves : LeavesSpoil bytes es at want found

-- damage of a tree: of an inner page, or of a leaf
abbrev pub TreeSpoils : List ℕ → Root → (at want found : ℕ) → Type 0
TreeSpoils bytes root at want found = InnerSpoils bytes root at want found ⊎ LeafSpoils bytes root at want found

-- damage of a table's tree
pub record TablesSpoil (bytes : List ℕ) (at want found : ℕ) : Type 0 where
  pub slot : Slot
  pub names : Record
  pub there : Names bytes slot names
  pub bare : IsBare names
  pub table : TableRoot
  pub among : IsAmong names.tables table
  pub tree : TreeSpoils bytes table.root at want found

-- Blocks that cannot all be in use, told of the first that cannot stand beside those before it, with its sum twice: the inner pages are there, and say where the leaves are to stand.
pub record BlocksMeet (bytes : List ℕ) (at want found : ℕ) : Type 0 where
  pub slot : Slot
  pub names : Record
  pub there : Names bytes slot names
  pub bare : IsBare names
  pub uppers : List Upper
  pub have : HaveUppers bytes names.tables uppers
  pub index : ℕ
  pub within : index < length (uppers_found slot uppers)
  pub place : at ≡ (found_at (uppers_found slot uppers) index).addr.offset
  pub sum : want ≡ (found_at (uppers_found slot uppers) index).addr.sum
  pub same : found ≡ want
  pub why : CannotStand (uppers_found slot uppers) (length bytes) index

-- The device is damaged at an offset: one sum is wanted there, and the other found. The two are the same where the sum is not at fault.
abbrev pub IsDamage : List ℕ → (at want found : ℕ) → Type 0
IsDamage bytes at want found = SlotSpoils bytes at want found ⊎ (RecordSpoils bytes at want found ⊎ (TablesSpoil bytes at want found ⊎ BlocksMeet bytes at want found))
