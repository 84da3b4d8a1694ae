use Rattle.std.proofs.Common.{◌≡◌, ◌++◌, IsTrue, length, take}
use Rattle.disk_model.specs.Crash.{Looked}
use Rattle.recover_open.specs.Bare.{HaveUppers}
use Rattle.recover_open.specs.Recoveries.{TreesAre, placed_roots, table_roots}
use Rattle.recover_open.proofs.trees.read_all.Given as goal

abbrev pub invariant-loop-upper : goal.invariant-loop-upper
invariant-loop-upper g l = record {
  looked : Looked g.D.Disk l.fn.disk l.disk;
  home : g.D.Disk.home l.disk ≡ g.D.Disk.home l.fn.disk;
  left : l.yielded ++ l.upper-iterator.rest.items ≡ l.fn.uppers.items;
  at : l.i ≡ length l.yielded;
  count : length l.leaves.items ≡ l.i;
  roots : placed_roots l.places.items ≡ table_roots (take l.i l.tables);
  are : IsTrue (g.D.Disk.honest l.fn.disk) → HaveUppers (g.D.Disk.seen l.fn.disk) l.tables l.fn.uppers.items → TreesAre (g.D.Disk.seen l.fn.disk) (take l.i l.tables) l.places.items l.leaves.items;
}
