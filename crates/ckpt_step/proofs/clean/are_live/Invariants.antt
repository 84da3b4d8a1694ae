use Rattle.std.proofs.Common.{take}
use Rattle.tree_write.specs.Drafts.{addrs_to}
use Rattle.tree_write.specs.Keeps.{AreLive}
use Rattle.ckpt_step.proofs.clean.are_live.Given as goal

abbrev pub invariant-loop-entry : goal.invariant-loop-entry
invariant-loop-entry l = AreLive l.blocks.cells (addrs_to (take l.entry-index l.entries))
