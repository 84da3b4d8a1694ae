use Rattle.std.proofs.Common.{take}
use Rattle.ckpt_step.specs.Giving.{AreDurableAt}
use Rattle.ckpt_step.proofs.giving.are_durable.Given as goal

abbrev pub invariant-loop-entry : goal.invariant-loop-entry
invariant-loop-entry l = AreDurableAt l.oldest (take l.entry-index l.entries)
