-- What a leaf of the directory is on a device, and why it is not read.
use Rattle.std.specs.Prelude.{◌≡◌, ◌⊎◌, ◌++◌, ◌∷◌, ℕ, true, false, IsTrue, List, [], Option, None, Some, option_map}
use Rattle.failure.specs.Counts.{Rose}
use Rattle.failure.specs.declared.Fault.{Fault}
use Rattle.disk_model.specs.declared.disk.Disk.{Ghosts}
use Rattle.wt_code.specs.declared.refusals.Refusal.{Refusal}
use Rattle.wt_code.specs.declared.refusals.Refusal.TheVariants.{CacheFull, DiskFault, NoMemory, Panic}
use Rattle.kv_model.specs.Calls.{Call}
use Rattle.kv_model.specs.Holds.{Member}
use Rattle.row_page.specs.Rows.{Row}
use Rattle.stored.specs.TableTree.{Entry, first_key}
use Rattle.leaf_rows.specs.declared.marks.Marks.{Marks}
use Rattle.leaf_frame.specs.Leaf.{HeldLeaf}
use Rattle.tree_open.specs.declared.place.Upper.{Upper}
use Rattle.tree_open.specs.Damage.{Refused}
use Rattle.recover_open.specs.Damage.{EntrySpoils}
use Rattle.recover_open.specs.Leaves.{IsUnder}
use Rattle.tree_dir.specs.declared.leaf.Leaf.{Leaf}
use Rattle.tree_dir.specs.Leaves.{Directory, leaf_behind, leaf_named}
use Rattle.leaf_load.specs.Loads.{IsLoaded}
use Rattle.engine_world.specs.Worlds.{World}
use Rattle.engine.specs.Whole.{IsUnderWay, KeptBy}
use Rattle.ckpt_step.specs.Parts.{has_rows}

-- the low key of the leaf behind the one of this id, where its table has one
abbrev pub low_behind : ℕ → List Leaf → Option (List ℕ)
low_behind id leaves = option_map (λ (l : Leaf). l.entry.key) (leaf_behind id leaves)

-- the leaf of this id is there, and this was read of its block
pub record IsReadAs (bytes : List ℕ) (dir : Directory) (id : ℕ) (marks : Marks) (ids : List ℕ) (held : HeldLeaf) : Type 0 where
  pub leaf : Leaf
  pub there : leaf_named id dir.leaves ≡ Some leaf
  pub loaded : IsLoaded bytes leaf.entry (low_behind id dir.leaves) marks ids held

-- What is read for the leaf of this id is on the shelf: the rows of its block, or none where its link leads to no rows.
pub record ShelfIsOn (bytes : List ℕ) (dir : Directory) (shelf : ℕ → List Row) (id : ℕ) : Type 0 where
  pub leaf : Leaf
  pub there : leaf_named id dir.leaves ≡ Some leaf
  pub under : has_rows leaf.entry.link ≡ true → IsUnder bytes leaf.entry (low_behind id dir.leaves) (shelf id)
  pub none : has_rows leaf.entry.link ≡ false → shelf id ≡ []

-- no leaf is where the entry of the leaf of this id leads
pub record LeafSpoils (bytes : List ℕ) (dir : Directory) (id at want found : ℕ) : Type 0 where
  pub leaf : Leaf
  pub there : leaf_named id dir.leaves ≡ Some leaf
  pub spoils : EntrySpoils bytes leaf.entry (low_behind id dir.leaves) at want found

-- a leaf to which an entry leads that was surveyed is at fault
pub record LeafOfSpoils (bytes : List ℕ) (uppers : List Upper) (at want found : ℕ) : Type 0 where
  pub upper : Upper
  pub among : Member upper uppers
  pub front : List Entry
  pub entry : Entry
  pub others : List Entry
  pub is : upper.entries.items ≡ front ++ entry ∷ others
  pub spoils : EntrySpoils bytes entry (first_key others) at want found

-- why a leaf is not read: a fault of the disk, want of memory, or damage of its block
abbrev pub RefusesLeaf : {D : Type 0} → Ghosts D → Directory → ℕ → D → D → Refusal → Type 0
RefusesLeaf g dir id old new r = Refused (Rose (g.faults old) (g.faults new)) (IsTrue (g.honest old)) (LeafSpoils (g.seen old) dir id) r

-- why a leaf that is there is not read
abbrev pub LacksLeaf : (fault : Type 0) → Refusal → Type 0
LacksLeaf fault r = (r ≡ NoMemory) ⊎ ((r ≡ DiskFault) × fault)

-- ---- of a call

-- why a leaf was kept from a call: memory was short, a read failed, the engine is down, or each frame has a leaf that may not go
abbrev pub IsCause : (fault full : Type 0) → Option Fault → Refusal → Type 0
IsCause fault full down r = (r ≡ NoMemory) ⊎ (((r ≡ DiskFault) × fault) ⊎ (((f : Fault) × (r ≡ Panic f) × (down ≡ Some f)) ⊎ ((r ≡ CacheFull) × full)))

-- where one was kept from a whole call, it was so in a world in which that was under way
abbrev pub IsCaused : (Caused : World → Refusal → Type 0) → World → ℕ → Call → KeptBy → Type 0
IsCaused Caused w session asked kept = (r : Refusal) → kept ≡ Some r → (now : World) × IsUnderWay None w session asked now × Caused now r

-- ---- of an opening

-- one of the leaves is not read
abbrev pub RefusesSome : {D : Type 0} → Ghosts D → Directory → D → D → Refusal → Type 0
RefusesSome g dir old new r = (r ≡ NoMemory) ⊎ ((id : ℕ) × RefusesLeaf g dir id old new r)
