use Rattle.std.proofs.Common.{◌≡◌, refl, length, arith}
use Rattle.std.specs.Prelude.{Some, slice_get}
use Rattle.std.proofs.lemmas.Option.{slice_get_read}
use Rattle.engine_world.specs.GoingOut.{IsClearOf}
use Rattle.engine.proofs.EachBelow.{each-all, each-more}
use Rattle.engine.proofs.going_out.are_clear_of.Goals as goal

pub returns-then-not-is_clear_of-clause-no : goal.returns-then-not-is_clear_of-clause-no
returns-then-not-is_clear_of-clause-no c = λ is all. c.is_clear_of.ensures.no c.if-not-is_clear_of.true (all c.loop-session.session-index c.session-item.result at) where
  at : slice_get c.args.sessions.now c.loop-session.session-index ≡ Some c.session-item.result
  at = slice_get_read c.args.sessions.now (length c.args.sessions.now) c.loop-session.session-index c.session-item.result refl c.loop-session-test.true c.session-item.is

pub loop-session-preserved : goal.loop-session-preserved
loop-session-preserved c = each-more (IsClearOf c.args.frame) c.args.sessions.now c.loop-session.session-index c.session-item.result c.loop-session.invariant at (c.is_clear_of.ensures.yes c.if-not-is_clear_of.false) where
  at : slice_get c.args.sessions.now c.loop-session.session-index ≡ Some c.session-item.result
  at = slice_get_read c.args.sessions.now (length c.args.sessions.now) c.loop-session.session-index c.session-item.result refl c.loop-session-test.true c.session-item.is

pub returns-clause-yes : goal.returns-clause-yes
returns-clause-yes c = λ is k a at. each-all (IsClearOf c.args.frame) c.args.sessions.now (λ i b less. c.loop-session.invariant i b (let end = c.loop-session-test.false in omega (arith, less, end))) k a at
