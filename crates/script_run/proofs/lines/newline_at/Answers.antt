use Rattle.std.proofs.Common.{arith}
use Rattle.script_run.proofs.Cutting.{unbroken-more}
use Rattle.script_run.proofs.lines.newline_at.Goals as goal

pub loop-i-preserved : goal.loop-i-preserved
loop-i-preserved c = unbroken-more c.args.piece.now c.loop-i.i (omega arith) c.if-b-eq10.false c.loop-i.invariant
