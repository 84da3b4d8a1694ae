use Rattle.std.proofs.Common.{◌≡◌, ◌≤◌, List, Option, length, take, IsTrue}
use Rattle.std.specs.List.{AllByRecursion}
use Rattle.std.specs.Prelude.{vec_capacity}
use Rattle.disk_model.specs.Crash.{SameDisk}
use Rattle.extent_list.specs.Space.{end_of}
use Rattle.row_page.specs.Rows.{Row}
use Rattle.stored.specs.Links.{LinkFits}
use Rattle.stored.specs.Stored.{Stored}
use Rattle.stored.specs.TableTree.{Entry}
use Rattle.tree_write.specs.Captures.{MayWrite}
use Rattle.tree_write.specs.Drafts.{addrs_to}
use Rattle.tree_write.specs.Steps.{AreSpelled, keys_of, part_keys}
use Rattle.leaf_write.specs.Adds.{AreAdded}
use Rattle.leaf_write.proofs.Going.{Going}
use Rattle.leaf_write.proofs.leaves.write_leaves.Given as goal

abbrev pub invariant-loop-i : goal.invariant-loop-i
invariant-loop-i g l = record {
  disk : SameDisk g.D.Disk l.fn.disk l.disk;
  held : l.blocks.is_held ≡ l.fn.blocks.is_held;
  ready : IsTrue (g.D.Disk.honest l.fn.disk) → end_of l.blocks.space ≤ length (g.D.Disk.seen l.disk);
  count : length l.entries.items ≡ l.i;
  room : length l.images ≤ vec_capacity l.entries;
  keys : keys_of l.entries.items ≡ take l.i (part_keys l.low l.images);
  fits : AllByRecursion (λ (e : Entry). LinkFits e.link) l.entries.items;
  added : AreAdded l.fn.blocks (addrs_to l.entries.items) l.blocks;
  going : (leaves : List (List Row)) → AreSpelled l.images leaves → IsTrue (g.D.Disk.honest l.fn.disk) → (old : Option Stored) → MayWrite (g.D.Disk.seen l.fn.disk) (g.D.Disk.may_leave l.fn.disk) l.fn.blocks old
      → Going g.D.Disk old l.fn.blocks l.fn.disk l.images leaves l.i l.entries.items l.blocks l.disk;
}
