-- What the writing out of a leaf answers, and what it leaves.
use Rattle.std.specs.Prelude.{◌≡◌, ◌⊎◌, ℕ, ◌<◌, ◌≤◌, Bool, true, false, List, [], ◌++◌, Option, None, Some, Result, Ok, Err}
use Rattle.std.specs.List.{Contains}
use Rattle.failure.specs.Counts.{Rose}
use Rattle.failure.specs.declared.Fault.{Fault}
use Rattle.disk_model.specs.Crash.{LeavesOnly}
use Rattle.disk_model.specs.declared.disk.Disk.{Ghosts}
use Rattle.extent_list.specs.Space.{Space}
use Rattle.wt_code.specs.declared.refusals.Refusal.{Refusal}
use Rattle.wt_code.specs.declared.refusals.Refusal.TheVariants.{NoMemory, NoSpace, DiskFault}
use Rattle.kv_model.specs.Holds.{Member}
use Rattle.kv_model.specs.Machine.{Machine}
use Rattle.leaf_rows.specs.Rows.{AreFit}
use Rattle.leaf_write.specs.Writes.{leaf_sizes}
use Rattle.row_page.specs.Rows.{Row}
use Rattle.stored.specs.Stored.{Stored}
use Rattle.stored.specs.TableTree.{Entry}
use Rattle.stored.specs.Tree.{join}
use Rattle.checkpoint_core.specs.Finishes.{IsOld}
use Rattle.checkpoint_core.specs.Stands.{HasStill, blocks_of}
use Rattle.tree_dir.specs.declared.leaf.Leaf.{Leaf}
use Rattle.tree_dir.specs.Leaves.{leaf_named, leaves_with}
use Rattle.tree_write.specs.Cuts.{AreFullLeaves}
use Rattle.tree_write.specs.Sizes.{LacksAll}
use Rattle.engine_world.specs.GivingWay.{IsIdle}
use Rattle.engine_world.specs.Stands.{Engine, Stands}
use Rattle.engine_world.specs.Systems.{with_fault}
use Rattle.engine_world.specs.Worlds.{World}
use Rattle.engine.specs.Frames.{HasGivenWay, IsFramed}
use Rattle.ckpt_step.specs.declared.ground.Ground.{Ground}
use Rattle.ckpt_step.specs.declared.lives.Lone.{Lone}
use Rattle.ckpt_step.specs.Floors.{AreLivesOn, AreNewestIn, Follows}
use Rattle.ckpt_step.specs.Giving.{StandsStill}
use Rattle.ckpt_step.specs.Grounds.{StandsOn, number_of}
use Rattle.ckpt_step.specs.Lives.{has_at, is_live, lone_blocks}
use Rattle.ckpt_step.specs.Parts.{LieIn}
use Rattle.ckpt_step.specs.Rooms.{known_in}
use Rattle.ckpt_step.specs.Sizes.{IsFreeSpace}
use Rattle.ckpt_step.specs.Takes.{IsBarred}

-- the rows have the newest version of each key of the leaf, and no other key
pub record AreRowsIn (m : Machine) (leaves : List Leaf) (l : Leaf) (rows : List Row) : Type 0 where
  pub fit : AreFit rows
  pub lie : LieIn leaves l.table l rows
  pub newest : AreNewestIn m leaves l.table l rows

-- ---- a leaf that stays

-- the newest versions of its keys are none, or one of them is not durable at the oldest stamp
pub record IsNotOld (m : Machine) (leaves : List Leaf) (id : ℕ) : Type 0 where
  pub leaf : Leaf
  pub there : leaf_named id leaves ≡ Some leaf
  pub rows : List Row
  pub are : AreRowsIn m leaves leaf rows
  pub why : (rows ≡ []) ⊎ ((r : Row) × Member r rows × (m.oldest < r.1.window.durable))

-- somebody is at work, or the leaf is unknown or in no frame, or memory has what its images would lose
abbrev pub WhyItStays : Engine → Machine → ℕ → Type 0
WhyItStays e m id = (IsIdle e → ⊥) ⊎ ((IsFramed e.hub.dir.leaves id → ⊥) ⊎ IsNotOld m e.hub.dir.leaves id)

-- ---- no room for it

-- The device has no room for the blocks of the images into which the newest versions of its keys are cut, in this order.
pub record IsFullOut (bytes : List ℕ) (capacity : ℕ) (lives : List Lone) (m : Machine) (leaves : List Leaf) (id : ℕ) : Type 0 where
  pub old : Option Stored
  pub has : HasStill old bytes
  pub space : Space
  pub space_is : IsFreeSpace bytes (blocks_of old ++ lone_blocks lives) space
  pub leaf : Leaf
  pub there : leaf_named id leaves ≡ Some leaf
  pub images : List (List Row)
  pub are : AreRowsIn m leaves leaf (join images)
  pub full : AreFullLeaves images
  pub lacks : LacksAll space capacity (leaf_sizes images)

-- why it was not written out, with the engine up; fault: the disk's count of faults rose
abbrev pub WhyNotOut : (fault : Type 0) → List ℕ → ℕ → List Lone → Machine → List Leaf → ℕ → ℕ → Refusal → Type 0
WhyNotOut fault bytes capacity lives m leaves number id r = IsBarred m number r ⊎ ((r ≡ NoMemory) ⊎ (((r ≡ NoSpace) × IsFullOut bytes capacity lives m leaves id) ⊎ ((r ≡ DiskFault) × fault)))

-- ---- the engine then, whatever the disk

abbrev pub LeavesEngine : Engine → Engine → ℕ → Result Bool Refusal → Type 0
LeavesEngine e e' id (Ok true) = (entries : List Entry) × HasGivenWay e e' id entries
LeavesEngine e e' id (Ok false) = e' ≡ e
LeavesEngine e e' id (Err r) = (e' ≡ e) ⊎ ((fault : Fault) × (e' ≡ with_fault e fault))

-- ---- what is left

module _ {D : Type 0} (g : Ghosts D) (old : Option Stored) (w : World) (stand stand' : Ground) (e e' : Engine) (id : ℕ) (before after : D) where
  -- The leaf gave way to others, each in a block that the live tree alone has. forgets: nothing is kept of it; freed: nor its own block, where it was written since the checkpoint before.
  pub record WrittenOut : Type 0 where
    pub entries : List Entry
    pub way : HasGivenWay e e' id entries
    pub ids : e.hub.dir.next ≤ e'.hub.dir.next
    pub left : LeavesOnly g before after (IsOld (g.may_leave before) old)
    pub still : StandsStill (g.seen after) (g.may_leave after) old e.hub e'.hub stand' w (leaves_with way.leaf.table way.ids entries)
    pub stands : Stands e' (record w { shelf = still.shelf })
    pub live : (n : Leaf) → Contains (leaves_with way.leaf.table way.ids entries) n → is_live stand'.lives n ≡ true
    pub freed : is_live stand.lives way.leaf ≡ true → has_at stand'.lives way.leaf.entry.link.addr.offset ≡ false
    pub forgets : known_in stand'.parts id ≡ None

  -- nothing changed
  pub record NotWritten : Type 0 where
    pub left : LeavesOnly g before after (IsOld (g.may_leave before) old)
    pub on : StandsOn (g.seen after) (g.may_leave after) e.hub stand' old
    pub follows : Follows old e.hub stand' w
    pub since : AreLivesOn (g.seen after) e.hub stand' w
    pub same : e' ≡ e

  -- a write failed, and the engine is down; the device has the checkpoint before
  pub record FallenOut (r : Refusal) : Type 0 where
    pub is : r ≡ DiskFault
    pub rose : Rose (g.faults before) (g.faults after)
    pub fault : Fault
    pub down : e' ≡ with_fault e fault
    pub left : LeavesOnly g before after (IsOld (g.may_leave before) old)

  abbrev pub RefusesOut : Refusal → Type 0
  RefusesOut r = (NotWritten × WhyNotOut (Rose (g.faults before) (g.faults after)) (g.seen before) (g.capacity before) stand.lives w.machine e.hub.dir.leaves (number_of old) id r) ⊎ FallenOut r

  abbrev pub WritesOut : Result Bool Refusal → Type 0
  WritesOut (Ok true) = WrittenOut
  WritesOut (Ok false) = NotWritten × WhyItStays e w.machine id
  WritesOut (Err r) = RefusesOut r
