use Rattle.std.proofs.Common.{◌≡◌, None}
use Rattle.std.specs.Prelude.{IsTrue}
use Rattle.std.specs.List.{Contains}
use Rattle.disk_model.specs.Crash.{Looked}
use Rattle.tree_dir.specs.declared.leaf.Leaf.{Leaf}
use Rattle.engine_world.specs.Stands.{Stands}
use Rattle.engine_world.specs.Worlds.{World}
use Rattle.engine.specs.Directories.{HubGoesOn, LeavesGoOn}
use Rattle.evict_step.specs.Kept.{list_of}
use Rattle.engine_store.specs.Keeping.{with_kept}
use Rattle.engine_store.specs.Marked.{IsLeafKept}
use Rattle.engine_store.proofs.MarkedIds.{AreFramed}
use Rattle.engine_store.proofs.marked.bring_marked.Given as goal

abbrev pub invariant-loop-leaf : goal.invariant-loop-leaf
invariant-loop-leaf g l = record {
  leaves : LeavesGoOn l.fn.engine.hub.dir.leaves l.engine.hub.dir.leaves;
  goes : HubGoesOn l.fn.engine.hub l.engine.hub;
  sessions : l.engine.sessions ≡ l.fn.engine.sessions;
  looked : Looked g.D.Disk l.fn.disk l.disk;
  home : g.D.Disk.home l.disk ≡ g.D.Disk.home l.fn.disk;
  framed : AreFramed l.engine.hub.dir.leaves l.leaf-items l.leaf-index;
  stands : IsTrue (g.D.Disk.honest l.fn.disk) → (w : World) → Stands l.fn.engine (with_kept l.fn.kept w) → ((x : Leaf) → Contains l.fn.engine.hub.dir.leaves x → IsLeafKept (g.D.Disk.seen l.fn.disk) l.fn.engine.hub.dir l.marks l.ids l.fn.kept w.shelf x) → Stands l.engine (with_kept l.kept w);
  same : (x : Leaf) → Contains l.engine.hub.dir.leaves x → x.frame ≡ None → list_of l.kept x.id ≡ list_of l.fn.kept x.id;
}
