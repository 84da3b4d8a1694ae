-- What a checkpoint had of the names before a floor, and of leaves that are as they lie on the device, and what no call changes of them.
use Rattle.std.specs.Prelude.{◌≡◌, ◌⊎◌, ℕ, ◌≤◌, ◌<◌, ◌==◌, ◌&&◌, ◌||◌, Bool, true, false, nat_lt, List, [], ◌∷◌, Option, None, Some, MatchOption, if◌then◌else◌, slice_get}
use Rattle.std.specs.List.{Contains}
use Rattle.item.specs.declared.Change.{Change}
use Rattle.stamp.specs.declared.Name.{Name}
use Rattle.stamp.specs.declared.Version.{Version}
use Rattle.kv_model.specs.AgreementLaws.{head_of}
use Rattle.kv_model.specs.History.{Table, line}
use Rattle.kv_model.specs.Machine.{Machine, name_of, transaction_of}
use Rattle.row_page.specs.Rows.{Row}
use Rattle.reconcile.specs.Shows.{shown_at}
use Rattle.stored.specs.Stored.{Stored}
use Rattle.stored.specs.TableTree.{Entry, TableTree}
use Rattle.stored.specs.Tree.{join}
use Rattle.tree_dir.specs.declared.leaf.Leaf.{Leaf}
use Rattle.tree_dir.specs.Leaves.{leaf_under}
use Rattle.call_steps.specs.declared.hub.Hub.{Hub}
use Rattle.engine_world.specs.Worlds.{Records, World}
use Rattle.tree_open.specs.declared.place.TreePlace.{TreePlace}
use Rattle.tree_write.specs.Drafts.{HasLeaves}
use Rattle.ckpt_step.specs.Trees.{HasTreeAt}
use Rattle.ckpt_step.specs.Lives.{is_live}
use Rattle.ckpt_step.specs.Parts.{AreBelowFloor, IsPart, part_in, part_leaves, part_of}
use Rattle.ckpt_step.specs.Rooms.{Written, known_in}
use Rattle.ckpt_step.specs.declared.ground.Ground.{Ground}
use Rattle.ckpt_step.specs.declared.lives.Lone.{Lone}

-- ---- names before a floor

-- the name is of an earlier run than the floor, or was drawn in its run with a smaller id; 0 is no id
abbrev pub is_before : Name → Name → Bool
is_before floor x = nat_lt x.run floor.run || ((x.run == floor.run) && (nat_lt 0 x.id && nat_lt x.id floor.id))

-- of the versions of a key, newest first, the newest whose name is before the floor
abbrev pub newest_before : Name → List (Version Change) → Option (Version Change)
newest_before floor [] = None
newest_before floor (v ∷ older) = if is_before floor v.window.name then Some v else newest_before floor older

-- no transaction that has not ended has a name before the floor, and no name that comes is before it
pub record Respects (m : Machine) (floor : Name) : Type 0 where
  pub next : (floor.run < m.run) ⊎ ((floor.run ≡ m.run) × (floor.id ≤ m.next))
  pub living : (session : ℕ) → MatchOption (transaction_of m session) (Unit {0}) (λ t. is_before floor (name_of m t) ≡ false)

-- A machine goes on: it respects each floor that it did, and the newest version of each key before such a floor is the same.
abbrev pub GoesOn : Machine → Machine → Type 0
GoesOn m next = (floor : Name) → Respects m floor
    → Respects next floor × ((table : ℕ) (key : List ℕ) → newest_before floor (line next.history table key) ≡ newest_before floor (line m.history table key))

-- ---- what lies beside an engine of the leaves that are in no frame

-- the rows of their blocks, and what the history keeps of them
abbrev pub laid_of : World → (ℕ → List Row) × Records
laid_of w = (w.shelf, w.records)

-- ---- the parts of a checkpoint's trees

-- The rows have the newest version before the floor of each key that lies in this leaf of the table.
abbrev pub AreNewestBefore : Machine → Name → List Leaf → ℕ → Leaf → List Row → Type 0
AreNewestBefore m floor leaves table l rows = (key : List ℕ) → leaf_under table key leaves ≡ Some l → newest_before floor (line m.history table key) ≡ shown_at key rows

-- they have the newest version of all
abbrev pub AreNewestIn : Machine → List Leaf → ℕ → Leaf → List Row → Type 0
AreNewestIn m leaves table l rows = (key : List ℕ) → leaf_under table key leaves ≡ Some l → head_of (line m.history table key) ≡ shown_at key rows

-- the leaf is in no frame, or no checkpoint of this engine wrote it
abbrev pub IsAsItLies : Written → Leaf → Type 0
IsAsItLies written l = (l.frame ≡ None) ⊎ (written l.id ≡ None)

-- The rows of the part of a leaf of the table. before: where all its names are below the floor, they are the newest before it. same: where the leaf is in no frame, or no checkpoint of this engine wrote it, they are those of its block, from which it is loaded.
pub record IsLeafBefore (m : Machine) (shelf : ℕ → List Row) (floor : Name) (leaves : List Leaf) (written : Written) (table : ℕ) (l : Leaf) (rows : List Row) : Type 0 where
  pub before : (part : List Entry) → part_in written l ≡ Some part → AreBelowFloor floor part → AreNewestBefore m floor leaves table l rows
  pub same : IsAsItLies written l → rows ≡ shelf l.id

-- The machine respects the floor, and so it is with each leaf of each table that the checkpoint has; with a leaf that was written since by the rows of its block. What the history keeps does not matter: the row of a block is newer.
pub record FollowsFrom (old : Option Stored) (known : List Table) (lives : List Lone) (leaves : List Leaf) (written : Written) (places : List TreePlace) (floor : Name) (w : World) : Type 0 where
  pub respects : Respects w.machine floor
  pub leaf : (i : ℕ) (t : Table) (place : TreePlace) (tree : TableTree) (l : Leaf) → slice_get known i ≡ Some t → slice_get places i ≡ Some place → HasTreeAt old t place tree → Contains leaves l → l.table ≡ t.number → is_live lives l ≡ false
      → IsLeafBefore w.machine w.shelf floor leaves written t.number l (join (part_leaves place tree (part_of written l)))
  pub since : (l : Leaf) → Contains leaves l → is_live lives l ≡ true → IsLeafBefore w.machine w.shelf floor leaves written l.table l (w.shelf l.id)

abbrev pub Follows : Option Stored → Hub → Ground → World → Type 0
Follows old hub g w = FollowsFrom old hub.tables.tables g.lives hub.dir.leaves (known_in g.parts) g.trees.items g.floor w

-- ---- leaves that were written since

-- the device has the rows of the leaf where its entry leads, and they are all of its part
pub record IsOnDevice (seen : List ℕ) (leaves : List Leaf) (shelf : ℕ → List Row) (l : Leaf) : Type 0 where
  pub is : IsPart leaves l.table l (l.entry ∷ []) (shelf l.id ∷ [])
  pub on : HasLeaves seen (l.entry ∷ []) (shelf l.id ∷ [])

-- so it is with each that was written since
abbrev pub AreOnDevice : List ℕ → List Lone → List Leaf → (ℕ → List Row) → Type 0
AreOnDevice seen lives leaves shelf = (l : Leaf) → Contains leaves l → is_live lives l ≡ true → IsOnDevice seen leaves shelf l

abbrev pub AreLivesOn : List ℕ → Hub → Ground → World → Type 0
AreLivesOn seen hub g w = AreOnDevice seen g.lives hub.dir.leaves w.shelf
