use Rattle.std.proofs.Common.{◌++◌, ◌∙◌, ap, arith, subst, sym}
use Rattle.std.proofs.lemmas.Bool.{false≢true}
use Rattle.std.proofs.lemmas.Grind.{common_steps}
use Rattle.std.specs.Prelude.{Bool}
use Rattle.script_run.specs.Lines.{Held, Takes}
use Rattle.script_run.proofs.Cutting.{gave_more}
use Rattle.script_run.proofs.Taking.{cut-after}
use Rattle.script_run.proofs.lines.Lines.next.Goals as goal

pub returns-in_err-take_front-2-clause-line : goal.returns-in_err-take_front-2-clause-line
returns-in_err-take_front-2-clause-line g c =
    let i = c.loop-self.invariant in
    (i.given ++ c.fill.new.self.behind, (gave_more _ _ _ i.given c.fill.new.self.behind i.gave c.in_ok-fill.ensures.gave, λ ended. absurd (false≢true (sym c.loop-self-test.true ∙ ap (λ (h : Held). h.ended) c.self-in-loop-self.view_is ∙ i.stays ended))), grind (arith, common_steps))

pub returns-then-branch-2-clause-line : goal.returns-then-branch-2-clause-line
returns-then-branch-2-clause-line g c =
    let i = c.loop-self.invariant in
    let takes = subst (λ (whole : Bool). Takes whole c.fill.new.self c.take_front-in-loop-self.new.self) c.if-branch-2.true c.in_ok-take_front-2.ensures in (
      i.given ++ c.fill.new.self.behind,
      (gave_more _ _ _ i.given c.fill.new.self.behind i.gave c.in_ok-fill.ensures.gave, λ ended. absurd (false≢true (sym c.loop-self-test.true ∙ ap (λ (h : Held). h.ended) c.self-in-loop-self.view_is ∙ i.stays ended))),
      cut-after c.args.self.now c.fill.new.self c.take_front-in-loop-self.new.self c.loop-self.self.line i.given i.read c.in_ok-fill.ensures.filled.0 takes,
    )
