use Rattle.std.proofs.Common.{arith}
use Rattle.dump_text.proofs.TextLines.{one_line}
use Rattle.dump_text.proofs.cut.line_end.Goals as goal

pub returns-in-None-clause-line : goal.returns-in-None-clause-line
returns-in-None-clause-line c = one_line c.args.text.now _ (λ k less is. c.in-None.ensures k (omega arith) (omega (arith, less)) is)

pub returns-in-Some-clause-line : goal.returns-in-Some-clause-line
returns-in-Some-clause-line c = one_line c.args.text.now c.in-Some.end (λ k less is. c.in-Some.ensures.0.before k (omega arith) less is)
