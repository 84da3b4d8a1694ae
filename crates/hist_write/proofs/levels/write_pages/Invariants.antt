use Rattle.std.proofs.Common.{◌≡◌, ◌≤◌, ◌++◌, ℕ, List, Option, length, true, IsTrue}
use Rattle.std.specs.List.{AllByRecursion}
use Rattle.std.specs.Prelude.{vec_capacity}
use Rattle.disk_model.specs.Crash.{SameDisk}
use Rattle.extent_list.specs.Space.{end_of}
use Rattle.block_mgr.specs.Blocks.{Books}
use Rattle.device_layout.specs.declared.addr.Addr.{Addr}
use Rattle.stored.specs.Stored.{Stored}
use Rattle.stored.specs.Tree.{Layer}
use Rattle.stored.specs.HistoryTree.{HistoryEntry, HistoryEntryFits}
use Rattle.hist_pages.specs.declared.page.HistoryPage.{HistoryPage}
use Rattle.tree_write.specs.Captures.{MayWrite}
use Rattle.hist_write.specs.Steps.{AreDrafts, marks_of, lows_of}
use Rattle.hist_write.proofs.Rising.{PagesGoing}
use Rattle.hist_write.proofs.levels.write_pages.Given as goal

abbrev pub invariant-loop-draft : goal.invariant-loop-draft
invariant-loop-draft g l = record {
  disk : SameDisk g.D.Disk l.fn.disk l.disk;
  held : l.blocks.is_held ≡ true;
  ready : IsTrue (g.D.Disk.honest l.fn.disk) → end_of l.blocks.space ≤ length (g.D.Disk.seen l.disk);
  count : length l.entries.items ≡ length l.yielded;
  room : length l.fn.drafts.items ≤ vec_capacity l.entries;
  fit : AllByRecursion HistoryEntryFits l.entries.items;
  marks : marks_of l.entries.items ≡ lows_of l.yielded;
  going : (level : ℕ) (pages : Layer HistoryEntry) → AreDrafts level l.fn.drafts.items pages → IsTrue (g.D.Disk.honest l.fn.disk) → (old : Option Stored) (first : Books) → MayWrite (g.D.Disk.seen l.fn.disk) (g.D.Disk.may_leave l.fn.disk) l.fn.blocks old
      → (addrs : List Addr) × (l.captured.items ≡ l.fn.captured.items ++ addrs) × (rest : List HistoryPage) × (l.fn.drafts.items ≡ l.yielded ++ rest) × PagesGoing g.D.Disk old first l.fn.blocks l.fn.disk level pages rest l.entries.items addrs l.blocks l.disk;
}
