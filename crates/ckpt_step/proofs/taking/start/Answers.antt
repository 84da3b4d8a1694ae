use Rattle.std.proofs.Common.{subst}
use Rattle.snapshot.specs.Sight.{IsSight}
use Rattle.ckpt_step.proofs.Startings.{starts}
use Rattle.ckpt_step.proofs.taking.start.Goals as goal

pub returns-clause-starts : goal.returns-clause-starts
returns-clause-starts c = λ w stands idle respects.
    let none = c.in-Ok.ensures.resolves w stands in
    starts c.args.engine.now c.args.ground.now w c.in-Ok-start_checkpoint.running stands c.in-Ok-start_checkpoint.ensures.sight (subst IsSight c.view-view.ensures.sight c.view-view.ensures.lent) (c.in-Ok-start_checkpoint.ensures.unended w stands)
    (c.in-Ok-start_checkpoint.ensures.runs w stands idle none) respects c.in-Ok.ensures.number (c.in-Ok.ensures.decided w stands idle) (c.in-Ok-start_checkpoint.ensures.stands w stands idle none)
