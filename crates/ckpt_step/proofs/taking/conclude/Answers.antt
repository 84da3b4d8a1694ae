use Rattle.ckpt_step.proofs.taking.conclude.Goals as goal

pub returns-in-Ok-clause-stands : goal.returns-in-Ok-clause-stands
returns-in-Ok-clause-stands c = λ n stands runs. c.finish_checkpoint.ensures n.world n.checkpoint stands runs
