use Rattle.std.proofs.Common.{◌≡◌, IsTrue, take, drop}
use Rattle.disk_model.specs.Crash.{Looked}
use Rattle.stored.specs.Tree.{Layer, join}
use Rattle.stored.specs.HistoryTree.{HistoryEntry, first_mark}
use Rattle.hist_open.specs.Pages.{ArePages}
use Rattle.hist_open.proofs.layer.read_layer.Given as goal

abbrev pub invariant-loop-i : goal.invariant-loop-i
invariant-loop-i g l = record {
  looked : Looked g.D.Disk l.fn.disk l.disk;
  home : g.D.Disk.home l.disk ≡ g.D.Disk.home l.fn.disk;
  are : IsTrue (g.D.Disk.honest l.fn.disk) → (pages : Layer HistoryEntry) × ArePages (g.D.Disk.seen l.fn.disk) l.level (take l.i l.entries) (first_mark (drop l.i l.entries)) pages × (l.below.items ≡ join pages);
}
