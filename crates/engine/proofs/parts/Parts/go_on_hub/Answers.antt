use Rattle.std.proofs.Common.{◌≡◌, ◌<◌, sym, length, subst}
use Rattle.std.specs.Prelude.{Some, slice_get}
use Rattle.call_turns.specs.Turns.{IsHubNext}
use Rattle.engine_world.specs.Laws.{with_hub, with_session}
use Rattle.engine_world.specs.Stands.{Engine, Stands}
use Rattle.engine.specs.Goings.{LeavesFewer}
use Rattle.engine.specs.Sound.{IsSound}
use Rattle.engine.specs.Told.{TellsFrom, answer_in}
use Rattle.engine.proofs.Driving.{hub-step, lent-at}
use Rattle.engine.proofs.Owning.{hub-tells-from}
use Rattle.engine.proofs.Soundness.{hub-keeps, keeps-from}
use Rattle.engine.proofs.Stepping.{HubLaws}
use Rattle.engine.proofs.Turns.{hub-fewer}
use Rattle.engine.proofs.parts.Parts.go_on_hub.Goals as goal

pub hub_event-requires : goal.hub_event-requires
hub_event-requires c = (subst IsSound (sym c.self.view_is) c.requires.sound).seated c.args.session c.index_mut.result.now at where
  e : Engine
  e = record { hub = c.self.inside.hub; pieces = c.self.inside.pieces.items; states = c.self.inside.states.items; hazards = c.self.inside.hazards.items; sessions = c.self.inside.sessions.items; systems = c.self.inside.systems.items }

  open_one : c.args.session < length e.sessions
  open_one = subst (λ (x : Engine). c.args.session < length x.sessions) (sym c.self.view_is) c.requires.open

  at : slice_get e.sessions c.args.session ≡ Some c.index_mut.result.now
  at = lent-at e.sessions c.args.session c.index_mut.result.now open_one c.index_mut.ensures.value

pub returns : goal.returns
returns c = record {
  step = λ w st. hub-step laws e c.args.session c.index_mut.result.now c.hub_event.new.state c.hub_event.new.hub c.hub_event.result at on c.hub_event.ensures w (subst (λ (x : Engine). Stands x w) (sym c.self.view_is) st);
  fewer = subst (λ (x : Engine). LeavesFewer x (with_session (with_hub e c.hub_event.new.hub) c.args.session c.hub_event.new.state) c.args.session c.hub_event.result) c.self.view_is
      (hub-fewer c.calls_end.ensures.hub c.calls_end.ensures.keeps e c.args.session c.index_mut.result.now c.hub_event.new.state c.hub_event.new.hub c.hub_event.result at c.stands.ensures on c.hub_event.ensures);
  kept = keeps-from e c.args.self.now c.self.view_is (hub-keeps c.calls_end.ensures.keeps c.seats_stay.ensures.hub c.calls_run.ensures.hub c.answers_are_own.ensures.hub e c.args.session c.index_mut.result.now c.hub_event.new.state c.hub_event.new.hub c.hub_event.result at c.hub_event.ensures);
  tells = subst (λ (x : Engine). TellsFrom (answer_in x c.args.session) c.hub_event.result) c.self.view_is
      (hub-tells-from c.answers_are_own.ensures.hub e c.args.session c.index_mut.result.now c.hub_event.new.state c.hub_event.new.hub c.hub_event.result at c.hub_event.ensures);
} where
  e : Engine
  e = record { hub = c.self.inside.hub; pieces = c.self.inside.pieces.items; states = c.self.inside.states.items; hazards = c.self.inside.hazards.items; sessions = c.self.inside.sessions.items; systems = c.self.inside.systems.items }

  open_one : c.args.session < length e.sessions
  open_one = subst (λ (x : Engine). c.args.session < length x.sessions) (sym c.self.view_is) c.requires.open

  at : slice_get e.sessions c.args.session ≡ Some c.index_mut.result.now
  at = lent-at e.sessions c.args.session c.index_mut.result.now open_one c.index_mut.ensures.value

  on : IsHubNext e.hub c.index_mut.result.now
  on = subst (λ (x : Engine). IsHubNext x.hub c.index_mut.result.now) (sym c.self.view_is) (c.requires.next c.index_mut.result.now (subst (λ (x : Engine). slice_get x.sessions c.args.session ≡ Some c.index_mut.result.now) c.self.view_is at))

  laws : HubLaws
  laws = record {
    begins = c.begins_go.ensures;
    finds = c.finds_go.ensures;
    fills = c.fills_go.ensures;
    passes = c.passes_go.ensures;
    histories = c.histories_go.ensures;
    releases = c.releases_go.ensures;
    decides = c.decides_go.ensures;
    resolves = c.resolves_go.ensures;
    ends = c.ends_go.ensures;
  }
