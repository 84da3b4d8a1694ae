use Rattle.std.proofs.Common.{◌≡◌, IsTrue}
use Rattle.disk_model.specs.Crash.{Looked}
use Rattle.recover_open.proofs.TreeLeaves.{AreTallied}
use Rattle.recover_open.proofs.check.check_leaves.Given as goal

abbrev pub invariant-loop-i : goal.invariant-loop-i
invariant-loop-i g l = record {
  looked : Looked g.D.Disk l.fn.disk l.disk;
  home : g.D.Disk.home l.disk ≡ g.D.Disk.home l.fn.disk;
  are : IsTrue (g.D.Disk.honest l.fn.disk) → AreTallied (g.D.Disk.seen l.fn.disk) l.entries l.i l.tally.leaves l.tally.versions;
}
