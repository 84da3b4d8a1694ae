use Rattle.ckpt_step.proofs.Ordinary.{engines_are, fits_are, kept_keep, kept_out_keep, steps_keep}
use Rattle.ckpt_step.proofs.laws.checkpoints_are_kept.Goals as goal

pub returns-clause-engines : goal.returns-clause-engines
returns-clause-engines c = engines_are

pub returns-clause-fits : goal.returns-clause-fits
returns-clause-fits c = fits_are

pub returns-clause-steps : goal.returns-clause-steps
returns-clause-steps c = steps_keep

pub returns-clause-kept : goal.returns-clause-kept
returns-clause-kept c = kept_keep

pub returns-clause-kept_out : goal.returns-clause-kept_out
returns-clause-kept_out c = kept_out_keep
