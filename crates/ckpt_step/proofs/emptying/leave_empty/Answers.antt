use Rattle.std.proofs.Common.{◌≡◌, ◌∙◌, ap, sym, subst, refl}
use Rattle.tree_dir.specs.declared.leaf.Leaf.{Leaf}
use Rattle.ckpt_step.specs.EvictSteps.{IsRowless}
use Rattle.ckpt_step.proofs.Members.{some_same}
use Rattle.ckpt_step.proofs.emptying.leave_empty.Goals as goal

pub returns-in-Ok-true-clause-left : goal.returns-in-Ok-true-clause-left
returns-in-Ok-true-clause-left c = λ yes.
    let found = c.in-Some.ensures in
    let out = c.in-Ok-true.ensures.out c.in-Ok-true.field-0-test in
    let same : found.0 ≡ out.may.leaf = some_same (sym found.1 ∙ out.may.there) in
    record {
      link = c.in-Some.link;
      out = out;
      led = found.2 ∙ ap (λ (l : Leaf). l.entry.link) same;
      rowless = subst (λ (l : Leaf). IsRowless c.args.ground.now c.args.engine.now.hub l) same found.3;
      stands = c.in-Ok-true.ensures.stands c.in-Ok-true.field-0-test;
      gone = c.forget.ensures.gone;
      others = c.forget.ensures.others;
      kept = c.forget-in-Ok-true.ensures;
      same = refl;
    }
