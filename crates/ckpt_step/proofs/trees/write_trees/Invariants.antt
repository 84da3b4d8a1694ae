use Rattle.std.proofs.Common.{◌≡◌, IsTrue, [], Option, length, true}
use Rattle.disk_model.specs.Crash.{SameDisk}
use Rattle.extent_list.specs.Space.{end_of}
use Rattle.std.specs.Prelude.{◌≤◌, take}
use Rattle.stored.specs.Stored.{Stored}
use Rattle.ckpt_content.specs.Finished.{tables_then}
use Rattle.ckpt_step.specs.Floors.{AreOnDevice, FollowsFrom}
use Rattle.ckpt_step.specs.Goings.{Going}
use Rattle.ckpt_step.specs.Grounds.{AreRoots, AreSince, AreWritten}
use Rattle.ckpt_step.specs.Halves.{Half}
use Rattle.ckpt_step.specs.Moments.{IsMoment, Moment}
use Rattle.ckpt_step.specs.Rooms.{known_in}
use Rattle.ckpt_step.specs.Trees.{AreTold, placed_by}
use Rattle.ckpt_step.proofs.trees.write_trees.Given as goal

abbrev pub invariant-loop-place : goal.invariant-loop-place
invariant-loop-place g l = record {
  held : l.blocks.is_held ≡ true;
  told : AreTold l.was.trees.now l.taken.trees.items;
  disk : SameDisk g.D.Disk l.fn.disk l.disk;
  ready : IsTrue (g.D.Disk.honest l.disk) → end_of l.blocks.space ≤ length (g.D.Disk.seen l.disk);
  count : length l.taken.trees.items ≡ l.place;
  going : IsTrue (g.D.Disk.honest l.fn.disk) → (n : Moment) → IsMoment l.engine l.snapshot.sight l.was.floor n → l.tables ≡ length (tables_then n.world.machine n.checkpoint) → (old : Option Stored)
      → Half (g.D.Disk.seen l.fn.disk) (g.D.Disk.may_leave l.fn.disk) l.fn.blocks old l.was.lives.now [] [] [] → AreRoots l.engine.hub.tables.tables l.was.lives.now l.engine.hub.dir.leaves (known_in l.was.parts.now) l.was.trees.now old → AreWritten l.engine.hub.tables.tables l.was.lives.now l.engine.hub.dir (known_in l.was.parts.now) l.was.trees.now → AreSince old l.was.lives.now l.engine.hub.dir (known_in l.was.parts.now)
      → FollowsFrom old l.engine.hub.tables.tables l.was.lives.now l.engine.hub.dir.leaves (known_in l.was.parts.now) l.was.trees.now l.was.floor n.world → AreOnDevice (g.D.Disk.seen l.fn.disk) l.was.lives.now l.engine.hub.dir.leaves n.world.shelf
      → Going g.D.Disk old l.was.trees.now l.was.lives.now l.engine.hub.dir.leaves (known_in l.was.parts.now) n (take l.tables l.engine.hub.tables.tables) l.fn.blocks l.blocks (placed_by l.was.trees.now l.taken.trees.items) l.taken.parts.items l.taken.captured.items l.place l.fn.disk l.disk;
}
