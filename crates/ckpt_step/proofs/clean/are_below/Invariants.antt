use Rattle.std.proofs.Common.{take}
use Rattle.ckpt_step.specs.Parts.{AreBelowFloor}
use Rattle.ckpt_step.proofs.clean.are_below.Given as goal

abbrev pub invariant-loop-entry : goal.invariant-loop-entry
invariant-loop-entry l = AreBelowFloor l.floor (take l.entry-index l.entries)
