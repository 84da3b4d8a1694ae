use Rattle.std.proofs.Common.{◌∙◌}
use Rattle.ckpt_step.proofs.HeldLives.{new_first}
use Rattle.ckpt_step.proofs.moving_in.hold_all.Goals as goal

pub returns-in-Err-clause-kept : goal.returns-in-Err-clause-kept
returns-in-Err-clause-kept c new = c.drop_all.ensures c.args.leaf c.args.lives.now (new_first c.args.lives.now c.args.entries.now c.loop-i.i new) (c.in-Err.ensures.kept ∙ c.loop-i.invariant)
