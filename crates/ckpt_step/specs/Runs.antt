-- What the writing of a checkpoint leaves, step by step.
use Rattle.std.specs.Prelude.{◌≡◌, ◌⊎◌, ◌++◌, ℕ, ◌*◌, ◌/◌, ◌≤◌, false, List, [], length, Option, Some, Result, Ok, Err}
use Rattle.disk_model.specs.Crash.{Each, Keeps, LeavesOnly}
use Rattle.disk_model.specs.declared.disk.Disk.{Ghosts}
use Rattle.extent_list.specs.Space.{end_of}
use Rattle.block_mgr.specs.declared.cell.Cell.{Cell}
use Rattle.block_mgr.specs.Blocks.{Books, Has}
use Rattle.block_mgr.specs.Cells.{AreUnits, cell_at}
use Rattle.device_layout.specs.declared.addr.Addr.{Addr}
use Rattle.device_layout.specs.Slots.{slot_at}
use Rattle.wt_code.specs.declared.refusals.Refusal.{Refusal}
use Rattle.wt_code.specs.declared.refusals.Refusal.TheVariants.{DiskFault}
use Rattle.wt_code.specs.declared.store_error.StoreError.{StoreError}
use Rattle.wt_code.specs.declared.store_error.StoreError.TheVariants.{NoSpace, Down}
use Rattle.wt_code.specs.StoreErrors.{refusal_of}
use Rattle.stamp.specs.declared.Name.{Name}
use Rattle.kv_model.specs.History.{Table}
use Rattle.kv_model.specs.Machine.{Checkpoint, Machine}
use Rattle.stored.specs.HistoryTree.{HistoryTree}
use Rattle.stored.specs.Records.{Record, IsRecord, Root, record_image}
use Rattle.stored.specs.Stored.{Stored, IsOn}
use Rattle.stored.specs.TableTree.{TableTree}
use Rattle.checkpoint_core.specs.Stands.{AreInUse}
use Rattle.checkpoint_core.specs.Finishes.{IsOld, IsEither, KeepsParts}
use Rattle.tree_open.specs.declared.place.TreePlace.{TreePlace}
use Rattle.recover_open.specs.Bare.{stored_with}
use Rattle.tree_write.specs.Captures.{IsSafe, places_of}
use Rattle.engine_world.specs.Stands.{Engine}
use Rattle.engine_world.specs.Systems.{with_fault}
use Rattle.ckpt_content.specs.Finished.{IsFinishOf, IsRecordThen, tables_then}
use Rattle.ckpt_step.specs.Floors.{AreLivesOn, Follows, FollowsFrom, Respects}
use Rattle.ckpt_step.specs.Lives.{AreOfOthers, NoneOfOthers}
use Rattle.ckpt_step.specs.Moments.{CapturesBefore, Moment}
use Rattle.ckpt_step.specs.Parts.{AreOfTables, with_parts}
use Rattle.ckpt_step.specs.Rooms.{Written, known_in}
use Rattle.tree_dir.specs.declared.leaf.Leaf.{Leaf}
use Rattle.call_steps.specs.declared.hub.Hub.{Hub}
use Rattle.ckpt_step.specs.declared.lives.Lone.{Lone}
use Rattle.ckpt_step.specs.declared.parts.LeafPart.{LeafPart}
use Rattle.ckpt_step.specs.Grounds.{StandsOn, number_of}
use Rattle.ckpt_step.specs.Halves.{AreListed, AreOwn, ByLeaves, IsFresh, Runs, done_at, half_cell, made_blocks, older_blocks}
use Rattle.ckpt_step.specs.Records.{roots_by_name, trees_by_name}
use Rattle.ckpt_step.specs.Sizes.{HasPlaces, HasRoomFor, IsFullFor, KeepsLeaves, LacksPlace}
use Rattle.ckpt_step.specs.Trees.{AreTreesAt, addrs_of, roots_of}
use Rattle.ckpt_step.specs.declared.ground.Ground.{Ground}

-- the image of the record of the checkpoint that the machine runs with the trees at these places, and the history at this root
pub record IsImageOf (m : Machine) (c : Checkpoint) (number : ℕ) (known : List Table) (places : List TreePlace) (root : Root) (image : List ℕ) : Type 0 where
  pub r : Record
  pub admitted : IsRecord r
  pub is : IsRecordThen m c number r
  pub history : r.history ≡ root
  pub tables : r.tables ≡ roots_by_name known (roots_of places)
  pub spelled : image ≡ record_image r

-- the checkpoint of these trees, by place, and of this history, whose record stands at an address
abbrev pub made_of : Record → List Table → List TableTree → HistoryTree → Addr → Stored
made_of r known trees history a = stored_with (slot_at r.sequence a) r (trees_by_name known trees) history

-- The checkpoint of these trees and this history is the last completed one, and the blocks of the checkpoint before are still in the live tree. stand: where those of the history are; half: the cells as the record was written.
pub record IsDone (seen : List ℕ) (books : Books) (old : Option Stored) (lives : List Lone) (known : List Table) (places : List TreePlace) (trees : List TableTree) (history : HistoryTree) (stand captured : List Addr) (r : Record) (a : Addr) : Type 0 where
  pub on : IsOn seen (made_of r known trees history a)
  pub tables : r.tables ≡ roots_by_name known (roots_of places)
  pub bytes : List ℕ
  pub there : AreTreesAt bytes places trees
  pub stand_is : stand ≡ places_of (older_blocks r.history history)
  pub half : List Cell
  pub half_are : (u : ℕ) → cell_at half u ≡ half_cell old lives captured u
  pub half_use : AreInUse half (made_blocks places trees r.history history)
  pub listed : AreListed captured (addrs_of places ++ stand)
  pub own : AreOwn old lives captured
  pub fresh : IsFresh old lives captured a
  pub sized : a.size ≡ 4096 * (a.size / 4096)
  pub cells : (u : ℕ) → cell_at books.cells u ≡ done_at old lives captured a u
  pub units : AreUnits books.cells books.space
  pub idle : books.is_held ≡ false
  pub within : end_of books.space ≤ length seen

module _ {D : Type 0} (g : Ghosts D) (old : Option Stored) (n : Moment) (before after : D) where
  -- a crash leaves the checkpoint before, or at a fault of the gate the new one
  abbrev pub LeavesOne : Type 0
  LeavesOne = LeavesOnly g before after (IsOld (g.may_leave before) old) ⊎ ((new : Stored) × IsFinishOf n.world.machine n.checkpoint (number_of old) new × LeavesOnly g before after (IsEither (g.may_leave before) old new))

-- had: what the checkpoint before has of the leaves of the directory; more: the leaves that are written now
module _ {D : Type 0} (g : Ghosts D) (old : Option Stored) (lives : List Lone) (n : Moment) (known : List Table) (leaves : List Leaf) (had : Written) (books books' : Books) (places : List TreePlace) (stand : List Addr) (more : List LeafPart) (captured : List Addr) (before after : D) where
  -- all blocks are written, and the record is installed
  pub record AllPut (a : Addr) : Type 0 where
    pub r : Record
    pub trees : List TableTree
    pub history : HistoryTree
    pub is : IsFinishOf n.world.machine n.checkpoint (number_of old) (made_of r known trees history a)
    pub left : LeavesOnly g before after (IsEither (g.may_leave before) old (made_of r known trees history a))
    pub each : Each (g.may_leave after) (λ c. IsOn c (made_of r known trees history a))
    pub placed : HasPlaces (g.seen before) (g.capacity before) old leaves had n books.space known
    pub by_leaves : ByLeaves (g.seen before) known leaves had n.world.shelf places trees (with_parts had more)
    pub of_tables : AreOfTables known leaves more
    pub apart : NoneOfOthers known leaves lives captured
    pub keeps : KeepsParts (Has books.cells) (g.seen before) (g.seen after)
    pub done : IsDone (g.seen after) books' old lives known places trees history stand captured r a
    pub follows : (floor : Name) → Respects n.world.machine floor → CapturesBefore n.world.machine n.checkpoint floor → FollowsFrom (Some (made_of r known trees history a)) known [] leaves (with_parts had more) places floor n.world

  -- they are not
  pub record SomePut (e : StoreError) : Type 0 where
    pub left : LeavesOne g old n before after
    pub kept : IsSafe e → LeavesOnly g before after (IsOld (g.may_leave before) old)
    pub keeps : IsSafe e → Keeps (Has books.cells) (g.seen before) (g.seen after)
    pub runs : IsSafe e → Runs (g.seen after) (g.may_leave after) books' old lives captured
    pub lacks : e ≡ NoSpace → LacksPlace (g.seen before) (g.capacity before) old leaves had n books.space known

  abbrev pub Puts : Result Addr StoreError → Type 0
  Puts (Ok a) = AllPut a
  Puts (Err e) = SomePut e

module _ {D : Type 0} (g : Ghosts D) (old : Option Stored) (n : Moment) (hub : Hub) (stand stand' : Ground) (before after : D) where
  -- the new checkpoint stands
  pub record NewStands : Type 0 where
    pub new : Stored
    pub is : IsFinishOf n.world.machine n.checkpoint (number_of old) new
    pub left : LeavesOnly g before after (IsEither (g.may_leave before) old new)
    pub each : Each (g.may_leave after) (λ c. IsOn c new)
    pub on : StandsOn (g.seen after) (g.may_leave after) hub stand' (Some new)
    pub follows : Follows (Some new) hub stand' n.world
    pub since : AreLivesOn (g.seen after) hub stand' n.world
    pub others : AreOfOthers (tables_then n.world.machine n.checkpoint) hub.dir.leaves stand.lives stand'.lives
    pub had_room : HasRoomFor (g.seen before) (g.capacity before) stand.lives hub.dir.leaves (known_in stand.parts) n
    pub kept : KeepsLeaves (g.seen before) hub.tables.tables hub.dir.leaves (known_in stand.parts) new stand'.trees.items (known_in stand'.parts)

  -- the one before does
  pub record OldStands (e : StoreError) : Type 0 where
    pub left : LeavesOne g old n before after
    pub kept : IsSafe e → LeavesOnly g before after (IsOld (g.may_leave before) old)
    pub on : IsSafe e → StandsOn (g.seen after) (g.may_leave after) hub stand' old
    pub follows : Follows old hub stand' n.world
    pub since : IsSafe e → AreLivesOn (g.seen after) hub stand' n.world
    pub full : e ≡ NoSpace → IsFullFor (g.seen before) (g.capacity before) stand.lives hub.dir.leaves (known_in stand.parts) n

  abbrev pub Wrote : Result (Unit {0}) StoreError → Type 0
  Wrote (Ok done) = NewStands
  Wrote (Err e) = OldStands e

-- the answer that tells how it went; a fault of a write or sync takes the engine down
abbrev pub Concludes : Engine → Engine → Result (Unit {0}) StoreError → Result (Unit {0}) Refusal → Type 0
Concludes e e' (Ok done) answer = (answer ≡ Ok tt) × (e' ≡ e)
Concludes e e' (Err (Down fault)) answer = (answer ≡ Err DiskFault) × (e' ≡ with_fault e fault)
Concludes e e' (Err error) answer = (answer ≡ Err (refusal_of error)) × (e' ≡ e)
