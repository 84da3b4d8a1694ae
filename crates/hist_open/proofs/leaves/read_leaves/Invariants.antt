use Rattle.std.proofs.Common.{◌≡◌, IsTrue, List, take, drop}
use Rattle.disk_model.specs.Crash.{Looked}
use Rattle.stored.specs.Tree.{join}
use Rattle.stored.specs.HistoryTree.{HistoryRecord, first_mark}
use Rattle.hist_open.specs.Leaves.{AreLeaves}
use Rattle.hist_open.proofs.leaves.read_leaves.Given as goal

abbrev pub invariant-loop-i : goal.invariant-loop-i
invariant-loop-i g l = record {
  looked : Looked g.D.Disk l.fn.disk l.disk;
  home : g.D.Disk.home l.disk ≡ g.D.Disk.home l.fn.disk;
  are : IsTrue (g.D.Disk.honest l.fn.disk) → (leaves : List (List HistoryRecord)) × AreLeaves (g.D.Disk.seen l.fn.disk) (take l.i l.entries) (first_mark (drop l.i l.entries)) leaves × (l.records.items ≡ join leaves);
}
