use Rattle.std.proofs.Common.{◌≡◌, ◌<◌, ap, sym, ◌∙◌, length, subst}
use Rattle.std.specs.Prelude.{Some, slice_get}
use Rattle.call_steps.specs.declared.next.Next.TheVariants as next
use Rattle.call_steps.specs.declared.reply.Reply.TheVariants as reply
use Rattle.call_steps.specs.Words.{next_of}
use Rattle.engine_world.specs.Laws.{with_session}
use Rattle.engine_world.specs.Leaves.{word_at}
use Rattle.engine_world.specs.Stands.{Engine, Stands}
use Rattle.engine.specs.Goings.{LeavesFewer}
use Rattle.engine.proofs.Driving.{lent-at, load-step}
use Rattle.engine.proofs.Soundness.{keeps-from, load-keeps}
use Rattle.engine.proofs.Turns.{load-fewer}
use Rattle.engine.proofs.parts.Parts.load.Goals as goal

pub returns : goal.returns
returns c = record {
  step = λ w st. load-step c.loads_go.ensures e c.args.session c.args.frame c.word_at-seen.result c.index_mut.result.now c.loaded.new.self at on seen c.loaded.ensures w (subst (λ (x : Engine). Stands x w) (sym c.self.view_is) st);
  fewer = subst (λ (x : Engine). LeavesFewer x (with_session e c.args.session c.loaded.new.self) c.args.session reply.More) c.self.view_is
      (load-fewer c.calls_end.ensures.loads e c.args.session c.args.frame c.word_at-seen.result c.index_mut.result.now c.loaded.new.self reply.More at on c.loaded.ensures);
  kept = keeps-from e c.args.self.now c.self.view_is (load-keeps c.seats_stay.ensures.loads c.calls_run.ensures.loads c.answers_are_own.ensures.loads e c.args.session c.word_at-seen.result c.index_mut.result.now c.loaded.new.self at c.loaded.ensures);
  tells = tt;
} where
  e : Engine
  e = record { hub = c.self.inside.hub; pieces = c.self.inside.pieces.items; states = c.self.inside.states.items; hazards = c.self.inside.hazards.items; sessions = c.self.inside.sessions.items; systems = c.self.inside.systems.items }

  open_one : c.args.session < length e.sessions
  open_one = subst (λ (x : Engine). c.args.session < length x.sessions) (sym c.self.view_is) c.requires.open

  at : slice_get e.sessions c.args.session ≡ Some c.index_mut.result.now
  at = lent-at e.sessions c.args.session c.index_mut.result.now open_one c.index_mut.ensures.value

  on : next_of c.index_mut.result.now ≡ next.Load c.args.frame
  on = c.requires.next c.index_mut.result.now (subst (λ (x : Engine). slice_get x.sessions c.args.session ≡ Some c.index_mut.result.now) c.self.view_is at)

  seen : c.word_at-seen.result ≡ word_at e.states c.args.frame
  seen = c.word_at-seen.ensures ∙ ap (λ ws. word_at ws c.args.frame) c.as_slice.ensures.value
