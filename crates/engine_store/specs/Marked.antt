-- Leaves of which an opening may take something out, and those that stay on the device.
use Rattle.std.specs.Prelude.{◌≡◌, ◌≢◌, ◌⊎◌, ℕ, true, List, Option, slice_get, Some, None, if◌then◌else◌}
use Rattle.std.specs.List.{Contains}
use Rattle.device_layout.specs.declared.link.Link.{Link}
use Rattle.kv_model.specs.History.{Table}
use Rattle.kv_model.specs.Holds.{Descends}
use Rattle.kv_model.specs.Ordered.{Older}
use Rattle.row_page.specs.Rows.{Row}
use Rattle.leaf_rows.specs.Contents.{seen_rows}
use Rattle.leaf_rows.specs.declared.marks.Marks.{Marks}
use Rattle.stored.specs.Links.{nowhere}
use Rattle.stored.specs.TableTree.{Entry}
use Rattle.recover_open.specs.Leaves.{IsUnder}
use Rattle.tree_dir.specs.declared.leaf.Leaf.{Leaf}
use Rattle.tree_dir.specs.Leaves.{Directory, leaf_named}
use Rattle.call_steps.specs.declared.hub.Hub.{Hub}
use Rattle.leaf_load.specs.Loads.{are_surely_seen}
use Rattle.engine.specs.Waits.{in_none}
use Rattle.evict_step.specs.Kept.{Lists, list_of, records_in}
use Rattle.kept_open.specs.Opening.{opened_rows}
use Rattle.ckpt_step.specs.Parts.{has_rows, own_part}
use Rattle.ckpt_step.specs.Rooms.{Written}
use Rattle.engine_store.specs.Loads.{low_behind}

-- the link leads to rows, or nowhere
abbrev pub LeadsOn : Link → Type 0
LeadsOn link = (has_rows link ≡ true) ⊎ (link ≡ nowhere)

-- An opening with these marks keeps each version of the leaf, as its link says, which leads to rows or nowhere: a checkpoint keeps no block without rows.
pub record IsUnmarked (marks : Marks) (l : Leaf) : Type 0 where
  pub seen : are_surely_seen marks l.entry.link.greatest l.entry.link.durable ≡ true
  pub leads : LeadsOn l.entry.link

-- Of a leaf that is in no frame no checkpoint of this engine wrote anything, and its link leads to rows or nowhere.
abbrev pub AreAway : List Leaf → Written → Type 0
AreAway leaves written = (l : Leaf) → Contains leaves l → l.frame ≡ None → (written l.id ≡ None) × LeadsOn l.entry.link

-- each leaf of this table has its id among these, or is unmarked
abbrev pub AreMarkedOf : List Leaf → ℕ → Marks → List ℕ → Type 0
AreMarkedOf leaves table marks ids = (l : Leaf) → Contains leaves l → l.table ≡ table → Contains ids l.id ⊎ IsUnmarked marks l

-- each leaf of a table that the engine knows has its id among these, or is unmarked
abbrev pub AreMarked : Hub → Marks → List ℕ → Type 0
AreMarked hub marks ids = (i : ℕ) (t : Table) (l : Leaf) → slice_get hub.tables.tables i ≡ Some t → Contains hub.dir.leaves l → l.table ≡ t.number → Contains ids l.id ⊎ IsUnmarked marks l

-- the part that a leaf has by its own entry, where it is in a frame
abbrev pub framed_part : Option Leaf → Option (List Entry)
framed_part None = None
framed_part (Some l) = if in_none l.frame then None else own_part l.entry

-- Something is kept of leaves in frames alone: the parts that they have by their own entries. It is kept of each of which an opening may take something out.
pub record KeepMarked (known : List Table) (leaves : List Leaf) (marks : Marks) (written : Written) : Type 0 where
  pub own : (id : ℕ) → (written id ≡ None) ⊎ (written id ≡ framed_part (leaf_named id leaves))
  pub marked : (i : ℕ) (t : Table) (l : Leaf) → slice_get known i ≡ Some t → Contains leaves l → l.table ≡ t.number → (written l.id ≡ framed_part (leaf_named l.id leaves)) ⊎ IsUnmarked marks l

-- it has all of these ids
abbrev pub HasAll : List ℕ → List ℕ → Type 0
HasAll ids some = (id : ℕ) → Contains some id → Contains ids id

-- the leaf of this id is in a frame, where there is one
abbrev pub IsFramed : List Leaf → ℕ → Type 0
IsFramed leaves id = (l : Leaf) → Contains leaves l → l.id ≡ id → l.frame ≢ None

-- The device has the leaf, and the shelf what an opening keeps of it, with the first version that is kept of each key of which it keeps no row.
pub record IsLeafKept (bytes : List ℕ) (dir : Directory) (marks : Marks) (ids : List ℕ) (kept : Lists) (shelf : ℕ → List Row) (l : Leaf) : Type 0 where
  pub rows : List Row
  pub under : IsUnder bytes l.entry (low_behind l.id dir.leaves) rows
  pub opened : shelf l.id ≡ opened_rows (seen_rows marks ids rows) (list_of kept l.id)
  -- what is kept of a key is newest first
  pub falls : (key : List ℕ) → Descends Older (records_in kept l.id key)
