use Rattle.std.proofs.Common.{take}
use Rattle.tree_write.specs.Drafts.{addrs_to}
use Rattle.ckpt_step.specs.CutOuts.{LetGo}
use Rattle.ckpt_step.proofs.books.let_go_leaves.Given as goal

abbrev pub invariant-loop-i : goal.invariant-loop-i
invariant-loop-i l = LetGo l.fn.blocks l.blocks (addrs_to (take l.i l.entries))
