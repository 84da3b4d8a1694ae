use Rattle.std.proofs.Common.{◌++◌, [], ◌∷◌, refl, sym, ◌∙◌, subst}
use Rattle.engine.proofs.Running.{HasRun, none-run, one-more, one-left, ran-front}
use Rattle.engine.proofs.runs.make_each.Goals as goal

pub loop-step-init : goal.loop-step-init
loop-step-init c = record { run = none-run c.args.local.now c.args.replies.now.items c.requires.empty; capacity = refl; left = c.into_iter-step-iterator.ensures.into_iter_gives.0 }

pub returns-in-Some-awaited_by : goal.returns-in-Some-awaited_by
returns-in-Some-awaited_by c = ran-front c.args.local.now c.loop-step.local c.loop-step.yielded c.loop-step.step-iterator.rest.items c.args.steps.items c.loop-step.replies.items c.loop-step.invariant.run (sym c.loop-step.invariant.left)

pub loop-step-preserved : goal.loop-step-preserved
loop-step-preserved c =
    let run = one-more c.args.local.now c.loop-step.local c.step.new.self c.loop-step.yielded c.loop-step.replies.items c.in-Some.step c.step.result c.loop-step.invariant.run
    c.step.ensures.sessions c.step.ensures.systems c.step.ensures.step in
    record {
      run = subst (HasRun c.args.local.now c.step.new.self (c.loop-step.yielded ++ c.in-Some.step ∷ [])) (sym c.push_reserved.ensures.items) run;
      capacity = c.push_reserved.ensures.capacity ∙ c.loop-step.invariant.capacity;
      left = one-left c.loop-step.yielded c.next.new.self.rest.items c.loop-step.step-iterator.rest.items c.args.steps.items c.in-Some.step c.in-Some.ensures.steps.0 c.loop-step.invariant.left;
    }

pub returns : goal.returns
returns c = ran-front c.args.local.now c.loop-step.local c.loop-step.yielded c.loop-step.step-iterator.rest.items c.args.steps.items c.loop-step.replies.items c.loop-step.invariant.run (sym c.loop-step.invariant.left)
