use Rattle.std.proofs.Common.{◌≡◌, ◌<◌, sym, length, subst}
use Rattle.std.specs.Prelude.{Some, slice_get}
use Rattle.call_steps.specs.State.{State}
use Rattle.engine_world.specs.Laws.{with_session}
use Rattle.engine_world.specs.Stands.{Engine, Stands}
use Rattle.engine.specs.Turning.{IsComing, coming_in}
use Rattle.engine.specs.Waits.{turns_in}
use Rattle.engine.proofs.Driving.{lent-at}
use Rattle.engine.proofs.Soundness.{keeps-from, load-keeps}
use Rattle.engine.proofs.TurningAway.{comes-here, turned-fewer, turned-step, turned-told}
use Rattle.engine.proofs.parts.Parts.turn_away.Goals as goal

pub returns : goal.returns
returns c = record {
  steps = λ w st. turned-step e c.args.session a a' x.target c.args.seen at comes x.other c.loaded.ensures w (subst (λ (y : Engine). Stands y w) (sym c.self.view_is) st);
  told = turned-told e c.args.session a a' x.target c.args.seen at comes x.other c.loaded.ensures;
  fewer = subst (λ (y : Engine). turns_in (with_session e c.args.session a') c.args.session < turns_in y c.args.session) c.self.view_is (turned-fewer c.calls_end.ensures.loads e c.args.session a a' x.target c.args.seen at comes c.loaded.ensures);
  kept = keeps-from e c.args.self.now c.self.view_is (load-keeps c.seats_stay.ensures.loads c.calls_run.ensures.loads c.answers_are_own.ensures.loads e c.args.session c.args.seen a a' at c.loaded.ensures);
} where
  e : Engine
  e = record { hub = c.self.inside.hub; pieces = c.self.inside.pieces.items; states = c.self.inside.states.items; hazards = c.self.inside.hazards.items; sessions = c.self.inside.sessions.items; systems = c.self.inside.systems.items }

  a : State
  a = c.index_mut.result.now

  a' : State
  a' = c.loaded.new.self

  open_one : c.args.session < length e.sessions
  open_one = subst (λ (y : Engine). c.args.session < length y.sessions) (sym c.self.view_is) c.requires.open

  at : slice_get e.sessions c.args.session ≡ Some a
  at = lent-at e.sessions c.args.session a open_one c.index_mut.ensures.value

  x : IsComing e c.args.session c.args.seen
  x = subst (λ (y : Engine). IsComing y c.args.session c.args.seen) (sym c.self.view_is) c.requires.coming

  comes : coming_in a.stage ≡ Some x.target
  comes = comes-here e c.args.session c.args.seen a at x
