use Rattle.item.proofs.ReadBack.{text-more, nothing-read}
use Rattle.item.proofs.escapes.plain_text.Goals as goal

pub loop-i-init : goal.loop-i-init
loop-i-init c = nothing-read c.args.text.now

pub loop-i-preserved : goal.loop-i-preserved
loop-i-preserved c = text-more c.args.text.now c.loop-i.i c.loop-i-test.true c.if-b-eq10.false c.if-b-eq92.false c.loop-i.invariant
