use Rattle.std.proofs.Common.{◌-◌, refl, arith}
use Rattle.std.proofs.lemmas.Bool.{leb-false, leb-true}
use Rattle.engine_store.proofs.KeptFrames.{not_full}
use Rattle.engine_store.proofs.store.Store.has_kept.Goals as goal

pub loop-frame-init : goal.loop-frame-init
loop-frame-init c = record { counts = refl; within = omega arith }

pub loop-frame-preserved : goal.loop-frame-preserved
loop-frame-preserved c = record { counts = c.kept_with-kept.ensures.counts c.loop-frame.invariant.counts; within = c.kept_with-kept.ensures.within }

pub returns-then-kept-left-clause-no : goal.returns-then-kept-left-clause-no
returns-then-kept-left-clause-no c = λ is.
    not_full c.args.self.now.engine c.args.most c.loop-frame.frame c.loop-frame.kept (c.numbered-frames.result - c.loop-frame.frame) (λ n there fit. let all = c.numbered-frames.ensures.all n there fit in omega (arith, all)) c.loop-frame.invariant.counts
    (omega (arith, c.if-kept-left.true))

pub returns-clause-yes : goal.returns-clause-yes
returns-clause-yes c = λ is. record {
  frames = c.loop-frame.frame;
  there = omega (arith, c.loop-frame-test.false, c.numbered-frames.ensures.within);
  numbered = omega (arith, c.loop-frame-test.false, c.numbered-frames.ensures.fit);
  count = c.loop-frame.kept;
  kept = c.loop-frame.invariant.counts;
  many = leb-true c.args.most c.loop-frame.kept is;
}

pub returns-clause-no : goal.returns-clause-no
returns-clause-no c = λ is.
    not_full c.args.self.now.engine c.args.most c.loop-frame.frame c.loop-frame.kept 0 (λ n there fit. let all = c.numbered-frames.ensures.all n there fit in omega (arith, all, c.loop-frame-test.false)) c.loop-frame.invariant.counts (let few = leb-false c.args.most c.loop-frame.kept is in omega (arith, few))
