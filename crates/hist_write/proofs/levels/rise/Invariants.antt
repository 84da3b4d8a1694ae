use Rattle.std.proofs.Common.{◌≡◌, ◌≤◌, ◌-◌, ◌++◌, List, Option, length, true, IsTrue}
use Rattle.std.specs.List.{AllByRecursion}
use Rattle.disk_model.specs.Crash.{SameDisk}
use Rattle.extent_list.specs.Space.{end_of}
use Rattle.block_mgr.specs.Blocks.{Books}
use Rattle.device_layout.specs.declared.addr.Addr.{Addr}
use Rattle.stored.specs.Stored.{Stored}
use Rattle.stored.specs.HistoryTree.{HistoryClimbs, HistoryEntryFits}
use Rattle.tree_write.specs.Captures.{MayWrite}
use Rattle.hist_write.proofs.Rising.{UpTo}
use Rattle.hist_write.proofs.Tops.{reach}
use Rattle.hist_write.proofs.levels.rise.Given as goal

abbrev pub invariant-loop-alloc : goal.invariant-loop-alloc
invariant-loop-alloc g l = record {
  disk : SameDisk g.D.Disk l.fn.disk l.disk;
  held : l.blocks.is_held ≡ true;
  ready : IsTrue (g.D.Disk.honest l.fn.disk) → end_of l.blocks.space ≤ length (g.D.Disk.seen l.disk);
  low : l.level ≤ 41;
  few : length l.entries.items ≤ reach (41 - l.level);
  fit : AllByRecursion HistoryEntryFits l.entries.items;
  climbs : HistoryClimbs l.entries.items;
  some : 1 ≤ length l.entries.items;
  up : IsTrue (g.D.Disk.honest l.fn.disk) → (old : Option Stored) (first : Books) → MayWrite (g.D.Disk.seen l.fn.disk) (g.D.Disk.may_leave l.fn.disk) l.fn.blocks old
      → (addrs : List Addr) × (l.captured.items ≡ l.fn.captured.items ++ addrs) × UpTo g.D.Disk old first l.fn.blocks l.fn.disk l.fn.leaves.items l.entries.items l.level addrs l.addrs.items l.blocks l.disk;
}

abbrev pub decreases-loop-alloc : goal.decreases-loop-alloc
decreases-loop-alloc g l = length l.entries.items
