use Rattle.std.proofs.Common.{◌∙◌, sym, subst}
use Rattle.std.proofs.lemmas.Option.{same_Some}
use Rattle.call_steps.specs.declared.stage.Target.{Target}
use Rattle.engine.specs.Turning.{SeesLock}
use Rattle.engine.proofs.parts.Parts.turned.Goals as goal

pub returns-in-Some-clause-none : goal.returns-in-Some-clause-none
returns-in-Some-clause-none c = λ is seen x. c.seen_at.ensures.none is seen
    (subst (λ (t : Target). SeesLock c.args.evicting.now t.frame t.word seen) (same_Some x.target c.in-Some.target (sym x.comes ∙ (sym c.coming.ensures ∙ c.in-Some.is))) x.sees)
