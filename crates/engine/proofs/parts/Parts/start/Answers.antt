use Rattle.std.proofs.Common.{◌≡◌, ◌<◌, sym, length, subst}
use Rattle.std.specs.Prelude.{Some, slice_get}
use Rattle.engine_world.specs.Stands.{Engine, Stands}
use Rattle.engine.proofs.Driving.{lent-at, start-step}
use Rattle.engine.proofs.Owning.{start-tells-own}
use Rattle.engine.proofs.Soundness.{keeps-from, start-keeps}
use Rattle.engine.proofs.parts.Parts.start.Goals as goal

pub returns : goal.returns
returns c = record {
  begun = λ w st. start-step c.starts_go.ensures e c.args.session c.index_mut.result.now c.start.new.self c.args.call c.start.result at c.start.ensures w (subst (λ (x : Engine). Stands x w) (sym c.self.view_is) st);
  kept = keeps-from e c.args.self.now c.self.view_is (start-keeps c.seats_stay.ensures.starts c.calls_run.ensures.starts c.answers_are_own.ensures.starts e c.args.session c.index_mut.result.now c.start.new.self c.args.call c.start.result at c.start.ensures);
  tells = start-tells-own c.args.call c.index_mut.result.now c.start.new.self c.start.result c.start.ensures;
} where
  e : Engine
  e = record { hub = c.self.inside.hub; pieces = c.self.inside.pieces.items; states = c.self.inside.states.items; hazards = c.self.inside.hazards.items; sessions = c.self.inside.sessions.items; systems = c.self.inside.systems.items }

  open_one : c.args.session < length e.sessions
  open_one = subst (λ (x : Engine). c.args.session < length x.sessions) (sym c.self.view_is) c.requires

  at : slice_get e.sessions c.args.session ≡ Some c.index_mut.result.now
  at = lent-at e.sessions c.args.session c.index_mut.result.now open_one c.index_mut.ensures.value
