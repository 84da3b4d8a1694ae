use Rattle.std.proofs.Common.{◌≡◌, IsTrue}
use Rattle.disk_model.specs.Crash.{Looked}
use Rattle.hist_open.proofs.Descent.{Reached}
use Rattle.hist_open.proofs.upper.read_upper.Given as goal

abbrev pub invariant-loop-level : goal.invariant-loop-level
invariant-loop-level g l = record {
  looked : Looked g.D.Disk l.fn.disk l.disk;
  home : g.D.Disk.home l.disk ≡ g.D.Disk.home l.fn.disk;
  reached : IsTrue (g.D.Disk.honest l.fn.disk) → Reached (g.D.Disk.seen l.fn.disk) l.fn.root l.level l.entries.items l.addrs.items;
}

abbrev pub decreases-loop-level : goal.decreases-loop-level
decreases-loop-level g l = l.level
