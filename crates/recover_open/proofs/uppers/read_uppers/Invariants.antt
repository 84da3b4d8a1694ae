use Rattle.std.proofs.Common.{◌≡◌, IsTrue, length, take}
use Rattle.disk_model.specs.Crash.{Looked}
use Rattle.recover_open.specs.Bare.{HaveUppers, AllClimb}
use Rattle.recover_open.proofs.uppers.read_uppers.Given as goal

abbrev pub invariant-loop-table : goal.invariant-loop-table
invariant-loop-table g l = record {
  looked : Looked g.D.Disk l.fn.disk l.disk;
  home : g.D.Disk.home l.disk ≡ g.D.Disk.home l.fn.disk;
  climb : AllClimb l.uppers.items;
  count : length l.uppers.items ≡ l.table-index;
  have : IsTrue (g.D.Disk.honest l.fn.disk) → HaveUppers (g.D.Disk.seen l.fn.disk) (take l.table-index l.tables) l.uppers.items;
}
