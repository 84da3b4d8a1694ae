use Rattle.std.proofs.Common.{ap, sym, ◌∙◌}
use Rattle.std.specs.Prelude.{Option}
use Rattle.failure.specs.declared.Fault.{Fault}
use Rattle.engine.specs.Reads.{refused_idle}
use Rattle.engine.proofs.reads.refused_idle.Goals as goal

pub returns-in-Some : goal.returns-in-Some
returns-in-Some c = sym (ap (λ (f : Option Fault). refused_idle f c.args.phase c.args.key.now) c.in-Some.is)

pub returns-in-None : goal.returns-in-None
returns-in-None c = c.refused_up.ensures ∙ sym (ap (λ (f : Option Fault). refused_idle f c.args.phase c.args.key.now) c.in-None.is)
