use Rattle.std.proofs.Common.{◌≡◌, IsTrue, take, drop}
use Rattle.disk_model.specs.Crash.{Looked}
use Rattle.stored.specs.Tree.{Layer, join}
use Rattle.stored.specs.TableTree.{Entry, first_key}
use Rattle.tree_open.specs.Pages.{ArePages}
use Rattle.tree_open.proofs.OneLayer.{AreFormed}
use Rattle.tree_open.proofs.layer.read_layer.Given as goal

abbrev pub invariant-loop-i : goal.invariant-loop-i
invariant-loop-i g l = record {
  looked : Looked g.D.Disk l.fn.disk l.disk;
  home : g.D.Disk.home l.disk ≡ g.D.Disk.home l.fn.disk;
  formed : AreFormed l.entries l.below.items l.i;
  are : IsTrue (g.D.Disk.honest l.fn.disk) → (pages : Layer Entry) × ArePages (g.D.Disk.seen l.fn.disk) l.level (take l.i l.entries) (first_key (drop l.i l.entries)) pages × (l.below.items ≡ join pages);
}
