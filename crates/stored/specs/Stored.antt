-- What a whole device reads as.
use Rattle.std.specs.Prelude.{◌≡◌, ◌⊎◌, ℕ, ◌≤◌, List, [], ◌∷◌, ◌++◌, length, map, Some, None}
use Rattle.std.specs.List.{AllByRecursion}
use Rattle.kv_model.specs.History.{Table, Placed}
use Rattle.kv_model.specs.Content.{Content, nothing}
use Rattle.row_page.specs.Changes.{version_in}
use Rattle.row_page.specs.Rows.{Row}
use Rattle.disk_model.specs.Disk.{Torn}
use Rattle.disk_model.specs.Ranges.{range}
use Rattle.device_layout.specs.declared.slot.Slot.{Slot}
use Rattle.device_layout.specs.Slots.{addr_in}
use Rattle.turtle.specs.Slots.{Chooses}
use Rattle.stored.specs.Blocks.{Block, IsAddressed, Holds, Apart, Same, Away}
use Rattle.stored.specs.Tree.{IsTree, tree_blocks, join}
use Rattle.stored.specs.TableTree.{table_kind, TableTree, root_entry}
use Rattle.stored.specs.HistoryTree.{history_kind, HistoryTree, history_root_entry, HistoryRecord, record_in}
use Rattle.stored.specs.Records.{TableRoot, Record, record_image, IsRecord}

-- The chosen slot, the record that it names, the tree of each of its tables, in the record's order, and the tree of the history.
pub record Stored : Type 0 where
  pub slot : Slot
  pub kept : Record
  pub trees : List TableTree
  pub history : HistoryTree

-- ---- the blocks

abbrev pub tables_blocks : List TableRoot → List TableTree → List Block
tables_blocks [] trees = []
tables_blocks (t ∷ tables) [] = []
tables_blocks (t ∷ tables) (tree ∷ trees) = tree_blocks table_kind (root_entry t.root.link) tree ++ tables_blocks tables trees

abbrev pub history_blocks : Record → HistoryTree → List Block
history_blocks r tree = tree_blocks history_kind (history_root_entry r.history.link) tree

abbrev pub record_block : Stored → Block
record_block s = record { place = addr_in s.slot; image = record_image s.kept }

-- the record's block, those of the tables, and those of the history
abbrev pub stored_blocks : Stored → List Block
stored_blocks s = record_block s ∷ (tables_blocks s.kept.tables s.trees ++ history_blocks s.kept s.history)

-- ---- the rules

abbrev pub AreTrees : List TableRoot → List TableTree → Type 0
AreTrees [] [] = Unit {0}
AreTrees [] (tree ∷ trees) = ⊥
AreTrees (t ∷ tables) [] = ⊥
AreTrees (t ∷ tables) (tree ∷ trees) = IsTree table_kind t.root.level (root_entry t.root.link) tree × AreTrees tables trees

-- what is asked of it without looking at the device
pub record IsWhole (s : Stored) : Type 0 where
  pub sequence : s.kept.sequence ≡ s.slot.sequence
  pub is_record : IsRecord s.kept
  pub trees : AreTrees s.kept.tables s.trees
  pub history : IsTree history_kind s.kept.history.level (history_root_entry s.kept.history.link) s.history
  pub addressed : AllByRecursion (λ (b : Block). IsAddressed b) (stored_blocks s)
  pub apart : Apart (stored_blocks s)

-- two contents are the same where the slots stand
abbrev pub SameSlots : List ℕ → List ℕ → Type 0
SameSlots old new = (range new 0 36 ≡ range old 0 36) × (range new 4096 36 ≡ range old 4096 36)

-- no byte is cut off, and those of the slots and of the blocks stay
abbrev pub Spares : List ℕ → List ℕ → List Block → Type 0
Spares old new blocks = (length old ≤ length new) × SameSlots old new × Same old new blocks

-- n bytes are written from this offset on, cut short or not: behind the slots, and away from the blocks
abbrev pub WritesBeside : ℕ → ℕ → List Block → List ℕ → List ℕ → Type 0
WritesBeside at n blocks old new = (8192 ≤ at) × Torn at n old new × Away at n blocks

-- the device has it
pub record IsOn (bytes : List ℕ) (s : Stored) : Type 0 where
  pub whole : IsWhole s
  pub long : 8192 ≤ length bytes
  pub chosen : Chooses bytes (Some s.slot)
  pub holds : Holds bytes (stored_blocks s)

-- ---- the content, which knows no place

-- rows of a table, in the model
abbrev pub placed_in : ℕ → List Row → List Placed
placed_in table rows = map {A = Row} (λ r. record { table = table; key = r.0; version = version_in r.1 }) rows

abbrev pub cells_in : List TableRoot → List TableTree → List Placed
cells_in [] trees = []
cells_in (t ∷ tables) [] = []
cells_in (t ∷ tables) (tree ∷ trees) = placed_in t.table.number (join tree.leaves) ++ cells_in tables trees

abbrev pub tables_of : List TableRoot → List Table
tables_of tables = map {A = TableRoot} (λ t. t.table) tables

-- what was kept: the tables by name, their rows in the order of their keys, and the history's records in theirs
abbrev pub content_of : Stored → Content
content_of s = record {
  run = s.kept.run;
  oldest = s.kept.oldest;
  stable = s.kept.stable;
  snapshot = s.kept.snapshot;
  tables = tables_of s.kept.tables;
  cells = cells_in s.kept.tables s.trees;
  records = map {A = HistoryRecord} record_in (join s.history.leaves);
}

-- no slot is open: no checkpoint was completed
pub record IsBlank (bytes : List ℕ) : Type 0 where
  pub long : 8192 ≤ length bytes
  pub shut : Chooses bytes None

-- the device's bytes read as this content
abbrev pub Reads : List ℕ → Content → Type 0
Reads bytes content = (IsBlank bytes × (content ≡ nothing)) ⊎ ((s : Stored) × IsOn bytes s × (content ≡ content_of s))
