use Rattle.std.proofs.Common.{◌∙◌}
use Rattle.latch_bench.proofs.pins.Goals as goal

pub loop-preserved : goal.loop-preserved
loop-preserved c =
    let i = c.loop.invariant in
    ((i.0.0, c.glance.ensures.keeper i.0.0 i.0.1), c.glance.ensures.number.0 ∙ i.1)
