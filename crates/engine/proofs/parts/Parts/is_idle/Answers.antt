use Rattle.std.proofs.Common.{◌≡◌, ap, sym, ◌∙◌, List, length, refl, arith}
use Rattle.std.specs.Prelude.{Some, slice_get}
use Rattle.std.proofs.lemmas.Option.{slice_get_read}
use Rattle.call_steps.specs.State.{State}
use Rattle.engine_world.specs.Stands.{Engine}
use Rattle.engine_world.specs.GivingWay.{RestsWhole}
use Rattle.engine.proofs.EachBelow.{each-all, each-more}
use Rattle.engine.proofs.parts.Parts.is_idle.Goals as goal

pub returns-then-not-rests_whole-clause-no : goal.returns-then-not-rests_whole-clause-no
returns-then-not-rests_whole-clause-no c = λ is idle. c.rests_whole.ensures.no c.if-not-rests_whole.true (idle c.loop-session.session-index c.session-item.result (sym (ap (λ (xs : List State). slice_get xs c.loop-session.session-index) sessions-are) ∙ at)) where
  at : slice_get c.deref-session-items.result.now c.loop-session.session-index ≡ Some c.session-item.result
  at = slice_get_read c.deref-session-items.result.now (length c.deref-session-items.result.now) c.loop-session.session-index c.session-item.result refl c.loop-session-test.true c.session-item.is

  sessions-are : c.deref-session-items.result.now ≡ c.args.self.now.sessions
  sessions-are = c.deref-session-items.ensures.value ∙ ap (λ (x : Engine). x.sessions) c.self.view_is

pub loop-session-preserved : goal.loop-session-preserved
loop-session-preserved c = each-more RestsWhole c.deref-session-items.result.now c.loop-session.session-index c.session-item.result c.loop-session.invariant at (c.rests_whole.ensures.yes c.if-not-rests_whole.false) where
  at : slice_get c.deref-session-items.result.now c.loop-session.session-index ≡ Some c.session-item.result
  at = slice_get_read c.deref-session-items.result.now (length c.deref-session-items.result.now) c.loop-session.session-index c.session-item.result refl c.loop-session-test.true c.session-item.is

pub returns-clause-yes : goal.returns-clause-yes
returns-clause-yes c = λ is k a at. each-all RestsWhole c.deref-session-items.result.now (λ i b less. c.loop-session.invariant i b (let end = c.loop-session-test.false in omega (arith, less, end))) k a
    (ap (λ (xs : List State). slice_get xs k) (c.deref-session-items.ensures.value ∙ ap (λ (x : Engine). x.sessions) c.self.view_is) ∙ at)
