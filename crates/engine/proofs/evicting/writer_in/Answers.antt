use Rattle.std.proofs.Common.{◌≡◌, refl, sym, length, subst, List, arith}
use Rattle.std.specs.Prelude.{Some, slice_get}
use Rattle.std.proofs.lemmas.Option.{slice_get_read}
use Rattle.kv_model.specs.Holds.{Member}
use Rattle.call_steps.specs.declared.written.WrittenKey.{WrittenKey}
use Rattle.engine_world.specs.Evicting.{NoneWroteIn}
use Rattle.engine.proofs.EachBelow.{each-all, each-more}
use Rattle.engine.proofs.evicting.writer_in.Goals as goal

pub returns-clause-none : goal.returns-clause-none
returns-clause-none c = λ is k a at. each-all (NoneWroteIn c.args.frame) c.args.sessions.now (λ i b less. c.loop-at.invariant i b (let end = c.loop-at-test.false in omega (arith, less, end))) k a at

pub loop-at-preserved : goal.loop-at-preserved
loop-at-preserved c = each-more (NoneWroteIn c.args.frame) c.args.sessions.now c.loop-at.at c.index-sessions-at.result c.loop-at.invariant at
    (λ k there. c.has_written.ensures.no c.if-has_written.false k (subst (λ (ks : List WrittenKey). Member k ks) (sym c.written.ensures) there)) where
      at : slice_get c.args.sessions.now c.loop-at.at ≡ Some c.index-sessions-at.result
      at = slice_get_read c.args.sessions.now (length c.args.sessions.now) c.loop-at.at c.index-sessions-at.result refl c.loop-at-test.true c.index-sessions-at.is

pub returns-then-has_written-clause-some : goal.returns-then-has_written-clause-some
returns-then-has_written-clause-some c = let wrote = c.has_written.ensures.yes c.if-has_written.true in
    (c.index-sessions-at.result, at, wrote.0, subst (λ (ks : List WrittenKey). Member wrote.0 ks) c.written.ensures wrote.1, wrote.2) where
      at : slice_get c.args.sessions.now c.loop-at.at ≡ Some c.index-sessions-at.result
      at = slice_get_read c.args.sessions.now (length c.args.sessions.now) c.loop-at.at c.index-sessions-at.result refl c.loop-at-test.true c.index-sessions-at.is
