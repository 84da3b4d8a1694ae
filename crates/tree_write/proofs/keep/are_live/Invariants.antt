use Rattle.std.proofs.Common.{take}
use Rattle.tree_write.specs.Keeps.{AreLive}
use Rattle.tree_write.proofs.keep.are_live.Given as goal

abbrev pub invariant-loop-addr : goal.invariant-loop-addr
invariant-loop-addr l = AreLive l.blocks.cells (take l.addr-index l.addrs)
