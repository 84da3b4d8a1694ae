-- What a recovery finds, and why it finds nothing.
use Rattle.std.specs.Prelude.{◌≡◌, ◌⊎◌, ℕ, ◌<◌, false, List, [], length, map, Option, Some, None}
use Rattle.failure.specs.Counts.{Rose}
use Rattle.disk_model.specs.declared.disk.Disk.{Ghosts}
use Rattle.block_mgr.specs.declared.found.Found.{Found}
use Rattle.block_mgr.specs.Blocks.{Books}
use Rattle.device_layout.specs.declared.slot.Slot.{Slot}
use Rattle.wt_code.specs.declared.refusals.Refusal.{Refusal}
use Rattle.wt_code.specs.declared.refusals.Refusal.TheVariants.{Corrupt, DiskFault, NoMemory, Limit as Refusal_Limit}
use Rattle.wt_code.specs.declared.refusals.Limit.TheVariants.{Checkpoints, Image}
use Rattle.kv_model.specs.Content.{Content}
use Rattle.row_page.specs.Rows.{Row}
use Rattle.stored.specs.Records.{Root, TableRoot, Record, IsRecord}
use Rattle.stored.specs.TableTree.{TableTree}
use Rattle.stored.specs.Stored.{Stored, Reads, IsOn, IsBlank}
use Rattle.device_leaf.specs.declared.place.Place.{Place}
use Rattle.device_leaf.specs.Openings.{HasBooks, Serves, last_number}
use Rattle.tree_open.specs.declared.place.TreePlace.{TreePlace}
use Rattle.tree_open.specs.Damage.{Refused}
use Rattle.recover_open.specs.declared.opening.Kept.{Kept}
use Rattle.recover_open.specs.declared.opening.Recovered.{Recovered}
use Rattle.recover_open.specs.Bare.{IsBare, HaveTrees, ArePlaces, bare_stored, kept_of, tree_rows}
use Rattle.recover_open.specs.Damage.{IsAmong, TreeSpoils, IsDamage, blocks_found}

-- the books have these blocks and no others in use, and no checkpoint runs
pub record Counts (found : List Found) (books : Books) : Type 0 where
  pub has : HasBooks found books
  pub idle : books.is_held ≡ false

-- What was kept is what the device holds: its record, where the tree of each table stands, and of its rows those that an opening keeps.
pub record Keeps (bytes : List ℕ) (place : Place) (k : Kept) : Type 0 where
  pub slot : Slot
  pub trees : List TableTree
  pub serves : Serves bytes place (Some (bare_stored slot k.record trees))
  pub books : Counts (blocks_found slot k.record.tables trees) place.blocks
  pub kept : k.leaves.items ≡ map {A = TableTree} (λ t. kept_of k.record (tree_rows t)) trees
  pub places : ArePlaces k.trees.items k.record.tables trees
  pub bare : IsBare k.record
  pub run : k.record.run < last_number
  pub sequence : k.record.sequence ≡ slot.sequence

-- no checkpoint was completed, and no block is in use
pub record KeepsNone (bytes : List ℕ) (place : Place) : Type 0 where
  pub serves : Serves bytes place None
  pub books : Counts [] place.blocks

abbrev pub KeepsOr : List ℕ → Place → Option Kept → Type 0
KeepsOr bytes place None = KeepsNone bytes place
KeepsOr bytes place (Some k) = Keeps bytes place k

abbrev pub IsRecovered : List ℕ → Recovered → Type 0
IsRecovered bytes o = KeepsOr bytes o.place o.kept

-- the roots of trees, and those of tables
abbrev pub placed_roots : List TreePlace → List Root
placed_roots places = map {A = TreePlace} (λ p. p.root) places

abbrev pub table_roots : List TableRoot → List Root
table_roots tables = map {A = TableRoot} (λ t. t.root) tables

-- whatever the disk, the record is one of a bare checkpoint that another run may follow, and each table has its root's place and kept rows
pub record KeptInForm (k : Kept) : Type 0 where
  pub is_record : IsRecord k.record
  pub bare : IsBare k.record
  pub run : k.record.run < last_number
  pub roots : placed_roots k.trees.items ≡ table_roots k.record.tables
  pub count : length k.leaves.items ≡ length k.record.tables
  pub leaves : List (List Row)
  pub kept : k.leaves.items ≡ map (kept_of k.record) leaves

abbrev pub InForm : Option Kept → Type 0
InForm None = Unit {0}
InForm (Some k) = KeptInForm k

-- Why a recovery finds nothing: fault says that the disk's count of faults rose, known that what it holds is known.
abbrev pub RecoveryRefused : (fault known : Type 0) → List ℕ → Refusal → Type 0
RecoveryRefused fault known bytes r =
    ((r ≡ DiskFault) × fault)
    ⊎ ((r ≡ NoMemory)
    ⊎ (((r ≡ Refusal_Limit Checkpoints) × (known → (content : Content) → Reads bytes content → content.run ≡ last_number))
    ⊎ (((r ≡ Refusal_Limit Image) × (known → (s : Stored) → IsOn bytes s → IsBare s.kept → ⊥) × (known → IsBlank bytes → ⊥))
    ⊎ ((at : ℕ) × (want : ℕ) × (found : ℕ) × (r ≡ Corrupt at want found) × (known → IsDamage bytes at want found)))))

-- the same of a disk, before and after
abbrev pub RefusesRecovery : {D : Type 0} → Ghosts D → (known : Type 0) → D → D → Refusal → Type 0
RefusesRecovery g known old new r = RecoveryRefused (Rose (g.faults old) (g.faults new)) known (g.seen old) r

-- ---- the steps of a recovery

-- The device has a tree for each table: these are their places, and their rows.
pub record TreesAre (bytes : List ℕ) (tables : List TableRoot) (places : List TreePlace) (leaves : List (List Row)) : Type 0 where
  pub trees : List TableTree
  pub have : HaveTrees bytes tables trees
  pub stand : ArePlaces places tables trees
  pub rows_are : leaves ≡ map tree_rows trees

-- why the trees are not read: one of them is not, or memory is short
abbrev pub TreesRefused : (fault known : Type 0) → List ℕ → List TableRoot → Refusal → Type 0
TreesRefused fault known bytes tables r = (r ≡ NoMemory) ⊎ ((t : TableRoot) × IsAmong tables t × Refused fault known (TreeSpoils bytes t.root) r)

-- what is put together of a place, a record, and the places and the rows of its trees
pub record IsAssembled (at : Place) (r : Record) (trees : List TreePlace) (leaves : List (List Row)) (o : Recovered) : Type 0 where
  pub place : o.place ≡ at
  pub kept : Kept
  pub is : o.kept ≡ Some kept
  pub names : kept.record ≡ r
  pub places : kept.trees.items ≡ trees
  pub rows_are : kept.leaves.items ≡ map (kept_of r) leaves
