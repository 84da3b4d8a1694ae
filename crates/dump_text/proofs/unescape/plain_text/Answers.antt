use Rattle.std.proofs.Common.{arith}
use Rattle.dump_text.proofs.EscapeRuns.{plain_run}
use Rattle.dump_text.proofs.unescape.plain_text.Goals as goal

pub returns-in-None-clause-plain : goal.returns-in-None-clause-plain
returns-in-None-clause-plain c = plain_run c.args.text.now _ (λ k less is. c.in-None.ensures k (omega arith) (omega (arith, less)) is)

pub returns-in-Some-clause-plain : goal.returns-in-Some-clause-plain
returns-in-Some-clause-plain c = plain_run c.args.text.now c.in-Some.end (λ k less is. c.in-Some.ensures.0.before k (omega arith) less is)
