use Rattle.std.proofs.Common.{◌≡◌, ◌<◌, sym, length, subst}
use Rattle.std.specs.Prelude.{Some, slice_get, IfOk, OnErr}
use Rattle.wt_calls.specs.declared.session_call.SessionCall.{SessionCall}
use Rattle.wt_calls.specs.declared.session_call.SessionCall.TheVariants.{Get}
use Rattle.wt_calls.specs.Calls.{session_call_in}
use Rattle.call_steps.specs.State.{State}
use Rattle.engine_world.specs.Laws.{with_session}
use Rattle.engine_world.specs.Stands.{Engine, Stands}
use Rattle.engine_world.specs.Steps.{MayBegin}
use Rattle.engine_world.specs.Worlds.{World, Resting, doing_of}
use Rattle.engine.proofs.Soundness.{keeps-from}
use Rattle.engine.proofs.Driving.{lent-at}
use Rattle.engine.proofs.LentCalls.{LentStarts, lent-begins, lent-keeps, lent-rests, lent-tells}
use Rattle.engine.proofs.parts.Parts.start_get.Goals as goal

pub returns : goal.returns
returns c = record {
  begun = subst (λ (x : Engine). IfOk c.start_get.result (λ told. (w : World) → Stands x w → (later : World) × MayBegin w c.args.session (session_call_in call) told later × Stands new later)) c.self.view_is
      (lent-begins c.starts_go.ensures e c.args.session a a' call c.start_get.result at starts);
  rests = subst (λ (x : Engine). OnErr c.start_get.result ((w : World) → Stands x w → (doing_of w c.args.session ≡ Resting) × Stands new w)) c.self.view_is
      (lent-rests e c.args.session a a' call c.start_get.result at starts);
  kept = keeps-from e c.args.self.now c.self.view_is (lent-keeps c.seats_stay.ensures.starts c.calls_run.ensures.starts c.answers_are_own.ensures.starts e c.args.session a a' call c.start_get.result at starts);
  tells = lent-tells call a a' c.start_get.result starts;
} where
  e : Engine
  e = record { hub = c.self.inside.hub; pieces = c.self.inside.pieces.items; states = c.self.inside.states.items; hazards = c.self.inside.hazards.items; sessions = c.self.inside.sessions.items; systems = c.self.inside.systems.items }

  a : State
  a = c.index_mut.result.now

  a' : State
  a' = c.start_get.new.self

  new : Engine
  new = with_session e c.args.session a'

  call : SessionCall
  call = Get c.args.table.now c.args.key.now

  open_one : c.args.session < length e.sessions
  open_one = subst (λ (x : Engine). c.args.session < length x.sessions) (sym c.self.view_is) c.requires

  at : slice_get e.sessions c.args.session ≡ Some a
  at = lent-at e.sessions c.args.session a open_one c.index_mut.ensures.value

  starts : LentStarts call a a' c.start_get.result
  starts = record { started = c.start_get.ensures.started; rests = c.start_get.ensures.rests; kept = c.start_get.ensures.kept }
