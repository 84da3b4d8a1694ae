use Rattle.std.proofs.Common.{◌≡◌, ◌≤◌, ◌++◌, take, true}
use Rattle.std.specs.Prelude.{vec_capacity}
use Rattle.tree_write.specs.Keeps.{AreLive, captured_all}
use Rattle.tree_write.proofs.keep.capture_all.Given as goal

abbrev pub invariant-loop-addr : goal.invariant-loop-addr
invariant-loop-addr l = record {
  live : AreLive l.blocks.cells l.addrs;
  cells : l.blocks.cells ≡ captured_all l.fn.blocks.cells (take l.addr-index l.addrs);
  space : l.blocks.space ≡ l.fn.blocks.space;
  synced : l.blocks.is_synced ≡ l.fn.blocks.is_synced;
  held : l.blocks.is_held ≡ true;
  listed : l.listed.items ≡ l.fn.listed.items ++ take l.addr-index l.addrs;
  room : vec_capacity l.fn.listed ≤ vec_capacity l.listed;
}
