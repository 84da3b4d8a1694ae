use Rattle.std.proofs.Common.{◌≡◌, take}
use Rattle.ckpt_step.specs.Holding.{named_all}
use Rattle.ckpt_step.proofs.moving_in.name_all.Given as goal

abbrev pub invariant-loop-i : goal.invariant-loop-i
invariant-loop-i l = l.lives ≡ named_all l.leaves l.table l.fn.lives (take l.i l.entries)
