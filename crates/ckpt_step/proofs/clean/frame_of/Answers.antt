use Rattle.ckpt_step.proofs.LeafSteps.{unloaded_in}
use Rattle.ckpt_step.proofs.clean.frame_of.Goals as goal

pub returns-in_err-frame-clause-none : goal.returns-in_err-frame-clause-none
returns-in_err-frame-clause-none c = rw c.from_residual-in_err-frame.ensures (unloaded_in c.args.engine.now c.args.leaf.now c.in_ok-framed.framed c.in_ok-framed.was c.in_err-frame.ensures.is)
