use Rattle.std.proofs.Common.{◌≡◌, ◌≤◌, ◌++◌, take, true}
use Rattle.std.specs.Prelude.{vec_capacity}
use Rattle.tree_write.specs.Drafts.{addrs_to}
use Rattle.tree_write.specs.Keeps.{AreLive, captured_all}
use Rattle.tree_write.proofs.keep.capture_leaves.Given as goal

abbrev pub invariant-loop-entry : goal.invariant-loop-entry
invariant-loop-entry l = record {
  live : AreLive l.blocks.cells (addrs_to l.entries);
  cells : l.blocks.cells ≡ captured_all l.fn.blocks.cells (take l.entry-index (addrs_to l.entries));
  space : l.blocks.space ≡ l.fn.blocks.space;
  synced : l.blocks.is_synced ≡ l.fn.blocks.is_synced;
  held : l.blocks.is_held ≡ true;
  listed : l.listed.items ≡ l.fn.listed.items ++ take l.entry-index (addrs_to l.entries);
  room : vec_capacity l.fn.listed ≤ vec_capacity l.listed;
}
