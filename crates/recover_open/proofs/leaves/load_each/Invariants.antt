use Rattle.std.proofs.Common.{◌≡◌, IsTrue, List, take, drop}
use Rattle.disk_model.specs.Crash.{Looked}
use Rattle.row_page.specs.Rows.{Row}
use Rattle.stored.specs.Tree.{join}
use Rattle.stored.specs.TableTree.{first_key}
use Rattle.recover_open.specs.Leaves.{AreLeaves}
use Rattle.recover_open.proofs.Keys.{AreInFront}
use Rattle.recover_open.proofs.leaves.load_each.Given as goal

abbrev pub invariant-loop-i : goal.invariant-loop-i
invariant-loop-i g l = record {
  looked : Looked g.D.Disk l.fn.disk l.disk;
  home : g.D.Disk.home l.disk ≡ g.D.Disk.home l.fn.disk;
  front : AreInFront l.entries l.rows l.i;
  are : IsTrue (g.D.Disk.honest l.fn.disk) → (leaves : List (List Row)) × AreLeaves (g.D.Disk.seen l.fn.disk) (take l.i l.entries) (first_key (drop l.i l.entries)) leaves × (l.rows ≡ join leaves);
}
