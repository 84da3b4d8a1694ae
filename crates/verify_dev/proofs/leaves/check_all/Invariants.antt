use Rattle.std.proofs.Common.{◌≡◌, IsTrue, take}
use Rattle.disk_model.specs.Crash.{Looked}
use Rattle.verify_dev.specs.Leaves.{AreAllTallied}
use Rattle.verify_dev.proofs.leaves.check_all.Given as goal

abbrev pub invariant-loop-upper : goal.invariant-loop-upper
invariant-loop-upper g l = record {
  looked : Looked g.D.Disk l.fn.disk l.disk;
  home : g.D.Disk.home l.disk ≡ g.D.Disk.home l.fn.disk;
  are : IsTrue (g.D.Disk.honest l.fn.disk) → AreAllTallied (g.D.Disk.seen l.fn.disk) (take l.upper-index l.uppers) l.tally;
}
