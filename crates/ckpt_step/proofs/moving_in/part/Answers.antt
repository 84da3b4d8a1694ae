use Rattle.ckpt_step.proofs.moving_in.part.Goals as goal

pub returns-in-Ok-true-clause-given : goal.returns-in-Ok-true-clause-given
returns-in-Ok-true-clause-given c = (c.in-Ok-true.ensures.parted c.in-Ok-true.field-0-test).way
