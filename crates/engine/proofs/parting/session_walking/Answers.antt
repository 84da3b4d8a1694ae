use Rattle.std.proofs.Common.{◌≡◌, ◌≢◌, refl, length, arith}
use Rattle.std.specs.Prelude.{Some, slice_get}
use Rattle.std.proofs.lemmas.Option.{slice_get_read}
use Rattle.call_steps.specs.State.{State}
use Rattle.engine_world.specs.Parting.{table_walked}
use Rattle.engine.proofs.EachBelow.{each-all, each-more}
use Rattle.engine.proofs.parting.session_walking.Goals as goal

pub returns-clause-none : goal.returns-clause-none
returns-clause-none c = λ is k a at. each-all (λ (a : State). table_walked a.stage ≢ Some c.args.table) c.args.sessions.now (λ i b less. c.loop-at.invariant i b (let end = c.loop-at-test.false in omega (arith, less, end))) k a at

pub loop-at-preserved : goal.loop-at-preserved
loop-at-preserved c = each-more (λ (a : State). table_walked a.stage ≢ Some c.args.table) c.args.sessions.now c.loop-at.at c.index-sessions-at.result c.loop-at.invariant at (c.is_walking.ensures.no c.if-is_walking.false) where
  at : slice_get c.args.sessions.now c.loop-at.at ≡ Some c.index-sessions-at.result
  at = slice_get_read c.args.sessions.now (length c.args.sessions.now) c.loop-at.at c.index-sessions-at.result refl c.loop-at-test.true c.index-sessions-at.is

pub returns-then-is_walking-clause-some : goal.returns-then-is_walking-clause-some
returns-then-is_walking-clause-some c = (c.index-sessions-at.result, at, c.is_walking.ensures.yes c.if-is_walking.true) where
  at : slice_get c.args.sessions.now c.loop-at.at ≡ Some c.index-sessions-at.result
  at = slice_get_read c.args.sessions.now (length c.args.sessions.now) c.loop-at.at c.index-sessions-at.result refl c.loop-at-test.true c.index-sessions-at.is
