use Rattle.std.proofs.Common.{◌≡◌, ◌++◌, IsTrue, ℕ, List, Option, Some, length, true}
use Rattle.std.specs.Prelude.{◌≤◌, slice_get}
use Rattle.disk_model.specs.Crash.{SameDisk}
use Rattle.extent_list.specs.Space.{end_of}
use Rattle.block_mgr.specs.Blocks.{Books}
use Rattle.kv_model.specs.History.{Table}
use Rattle.kv_model.specs.Holds.{Member}
use Rattle.stored.specs.Stored.{Stored}
use Rattle.tree_dir.specs.declared.leaf.Leaf.{Leaf}
use Rattle.tree_dir.specs.Leaves.{leaves_of}
use Rattle.ckpt_content.specs.Finished.{tables_then}
use Rattle.ckpt_step.specs.Drafting.{Drafting}
use Rattle.ckpt_step.specs.Floors.{AreOnDevice, FollowsFrom}
use Rattle.ckpt_step.specs.Goings.{HasPartsAt, MayGo}
use Rattle.ckpt_step.specs.Lives.{live_addrs}
use Rattle.ckpt_step.specs.Moments.{IsMoment, Moment}
use Rattle.ckpt_step.specs.Rooms.{known_in}
use Rattle.ckpt_step.proofs.leaves.take_leaves.Given as goal

abbrev pub invariant-loop-leaf : goal.invariant-loop-leaf
invariant-loop-leaf g l = record {
  held : l.blocks.is_held ≡ true;
  trees : l.taken.trees ≡ l.fn.taken.trees;
  disk : SameDisk g.D.Disk l.fn.disk l.disk;
  ready : IsTrue (g.D.Disk.honest l.disk) → end_of l.blocks.space ≤ length (g.D.Disk.seen l.disk);
  front : List Leaf;
  all : leaves_of l.table l.engine.hub.dir.leaves ≡ front ++ l.leaves;
  drafts : IsTrue (g.D.Disk.honest l.fn.disk) → (n : Moment) → IsMoment l.engine l.snapshot.sight l.was.floor n → (i : ℕ) (t : Table) → slice_get l.engine.hub.tables.tables i ≡ Some t → t.number ≡ l.table → Member t (tables_then n.world.machine n.checkpoint)
      → (old : Option Stored) (first : Books) → MayGo (g.D.Disk.seen l.fn.disk) (g.D.Disk.may_leave l.fn.disk) first l.fn.blocks old l.was.trees.now (live_addrs l.was.lives.now (leaves_of t.number l.engine.hub.dir.leaves)) i → HasPartsAt old l.was.lives.now l.engine.hub.dir.leaves (known_in l.was.parts.now) l.was.trees.now t i
      → FollowsFrom old l.engine.hub.tables.tables l.was.lives.now l.engine.hub.dir.leaves (known_in l.was.parts.now) l.was.trees.now l.was.floor n.world → AreOnDevice (g.D.Disk.seen l.fn.disk) l.was.lives.now l.engine.hub.dir.leaves n.world.shelf
      → Drafting g.D.Disk old first l.engine.hub.dir.leaves (known_in l.was.parts.now) n t.number l.fn.blocks l.blocks l.fn.taken.parts.items l.taken.parts.items l.fn.taken.captured.items l.taken.captured.items l.fn.disk l.disk front l.draft;
}

abbrev pub decreases-loop-leaf : goal.decreases-loop-leaf
decreases-loop-leaf g l = length l.leaves
