use Rattle.std.proofs.Common.{◌≡◌, take}
use Rattle.ckpt_step.specs.Holding.{held_all}
use Rattle.ckpt_step.proofs.moving_in.hold_all.Given as goal

abbrev pub invariant-loop-i : goal.invariant-loop-i
invariant-loop-i l = l.lives ≡ held_all l.leaf l.fn.lives (take l.i l.entries)
