use Rattle.std.proofs.Common.{below_more}
use Rattle.block_mgr.proofs.open.first_clash.Goals as goal

pub loop-j-preserved : goal.loop-j-preserved
loop-j-preserved c = below_more _ _ c.loop-j.invariant (c.agree.ensures.yes c.if-not-agree.false)
