use Rattle.std.proofs.Common.{◌∙◌, refl, ap}
use Rattle.wt_code.specs.declared.answers.Answer.{Answer}
use Rattle.wt_code.specs.declared.answers.Answer.TheVariants.{Refused}
use Rattle.wt_code.specs.declared.refusals.Refusal.TheVariants.{Again}
use Rattle.std.proofs.Common.{ℕ, List}
use Rattle.engine_store.proofs.Bases.{basis_here}
use Rattle.engine_store.proofs.BesideSteps.{same_seen, turned_held}
use Rattle.engine_store.proofs.SystemCalls.{event_keeps}
use Rattle.engine_store.proofs.Telling.{keep_told}
use Rattle.engine.proofs.TurningAway.{turned-comes}
use Rattle.engine_store.proofs.store.Store.go_beside.Goals as goal

pub turn_away-requires-clause-coming : goal.turn_away-requires-clause-coming
turn_away-requires-clause-coming g c = turned-comes c.args.self.now.engine c.args.session c.args.evicting.now c.in-Some.seen c.in-Some.ensures.some

pub returns-in-Some-clause-stepped : goal.returns-in-Some-clause-stepped
returns-in-Some-clause-stepped g c = turned_held g.D.Disk c.args.self.now c.turn_away.new.self c.args.disk.now c.args.evicting.now c.args.session c.in-Some.seen c.in-Some.ensures.some c.turn_away.ensures.steps c.turn_away.ensures.goes c.actors.ensures.built

pub returns-in-Some-clause-turns : goal.returns-in-Some-clause-turns
returns-in-Some-clause-turns g c = λ seen x.
    (refl, c.turn_away.ensures.told ∙ ap (λ (n : ℕ). let answer : Answer (List ℕ) = Refused (Again n) in answer) (same_seen c.args.self.now.engine c.args.session c.args.evicting.now c.in-Some.seen seen c.in-Some.ensures.some x))

pub returns-in-Some-clause-fewer : goal.returns-in-Some-clause-fewer
returns-in-Some-clause-fewer g c = λ none. c.turn_away.ensures.fewer

pub returns-in-Some-clause-told : goal.returns-in-Some-clause-told
returns-in-Some-clause-told g c = λ basis start le on told. (
  λ answer is. absurd (cc),
  keep_told g.D.Disk basis start c.args.disk.now c.args.self.now.engine c.turn_away.new.self c.turn_away.ensures.own told,
  basis_here g.D.Disk basis c.args.self.now.engine c.turn_away.new.self c.args.disk.now c.turn_away.ensures.goes on,
)

pub returns-in-Some-clause-keeps : goal.returns-in-Some-clause-keeps
returns-in-Some-clause-keeps g c = event_keeps g.D.Disk c.args.disk.now c.args.self.now c.turn_away.new.self c.turn_away.ensures.goes

pub returns-in-Some-clause-fault : goal.returns-in-Some-clause-fault
returns-in-Some-clause-fault g c = c.turn_away.ensures.goes.fault

pub returns-in-None-clause-stepped : goal.returns-in-None-clause-stepped
returns-in-None-clause-stepped g c = c.go_free.ensures.stepped c.args.evicting.now

pub returns-in-None-clause-turns : goal.returns-in-None-clause-turns
returns-in-None-clause-turns g c = λ seen x. absurd (c.in-None.ensures.none refl seen x)
