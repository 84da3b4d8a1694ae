use Rattle.dump_text.proofs.PlainLanes.{byte_more}
use Rattle.dump_text.proofs.escape.plain_from.Goals as goal

pub loop-i-preserved : goal.loop-i-preserved
loop-i-preserved c = byte_more c.args.bytes.now c.loop-i.i c.loop-i-test.true (c.is_escaped.ensures c.if-is_escaped.false) c.loop-i.invariant
