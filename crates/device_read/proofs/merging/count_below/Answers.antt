use Rattle.std.proofs.Common.{◌∙◌, sym, arith}
use Rattle.device_read.proofs.Cells.{below_end, below_here}
use Rattle.device_read.proofs.merging.count_below.Goals as goal

pub returns-then-not-is_below-clause-below : goal.returns-then-not-is_below-clause-below
returns-then-not-is_below-clause-below c =
    (below_here c.args.key.now c.args.newest.now c.loop-i.i c.index-newest-i.result (omega (arith, c.loop-i-test.true)) c.index-newest-i.is c.loop-i.invariant (sym c.is_below.ensures ∙ c.if-not-is_below.true)).0

pub returns-then-not-is_below-clause-from : goal.returns-then-not-is_below-clause-from
returns-then-not-is_below-clause-from c =
    (below_here c.args.key.now c.args.newest.now c.loop-i.i c.index-newest-i.result (omega (arith, c.loop-i-test.true)) c.index-newest-i.is c.loop-i.invariant (sym c.is_below.ensures ∙ c.if-not-is_below.true)).1

pub returns-clause-below : goal.returns-clause-below
returns-clause-below c = (below_end c.args.key.now c.args.newest.now c.loop-i.i (omega (arith, c.loop-i-test.false)) c.loop-i.invariant).0

pub returns-clause-from : goal.returns-clause-from
returns-clause-from c = (below_end c.args.key.now c.args.newest.now c.loop-i.i (omega (arith, c.loop-i-test.false)) c.loop-i.invariant).1
