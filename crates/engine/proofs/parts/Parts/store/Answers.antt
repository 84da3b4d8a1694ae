use Rattle.std.proofs.Common.{◌≡◌, ◌<◌, ◌+◌, ◌*◌, ℕ, ap, sym, ◌∙◌, List, length, subst}
use Rattle.std.specs.Prelude.{Some, slice_get, slice_set}
use Rattle.std.specs.Vec.{with_items}
use Rattle.std.proofs.lemmas.List.{with_items_is}
use Rattle.call_steps.specs.declared.next.Next.TheVariants as next
use Rattle.call_steps.specs.Words.{next_of}
use Rattle.engine_world.specs.Laws.{Leads, with_session}
use Rattle.engine_world.specs.Stands.{Engine, Stands}
use Rattle.engine.specs.Goings.{LeavesFewer}
use Rattle.engine.specs.Told.{TellsFrom, answer_in}
use Rattle.engine.proofs.Driving.{lent-at, store-step}
use Rattle.engine.proofs.Owning.{store-tells-from}
use Rattle.engine.proofs.Soundness.{keeps-from, store-keeps}
use Rattle.engine.proofs.Stepping.{StoreLaws}
use Rattle.engine.proofs.Turns.{store-fewer}
use Rattle.engine.proofs.parts.Parts.store.Goals as goal

pub returns : goal.returns
returns c = record {
  step = λ w st. subst (λ hs. Leads (with_session (record e { hazards = hs }) c.args.session c.stored.new.self) w c.args.session c.stored.result) (sym hazards-are) (store-step laws e c.args.session c.args.word c.args.value (c.args.session * 5 + c.args.word) c.index_mut.result.now c.stored.new.self c.stored.result c.set_word.new.words at on words c.stored.ensures w
      (subst (λ (x : Engine). Stands x w) (sym c.self.view_is) st));
  fewer = subst (λ (x : Engine). LeavesFewer x (with_session (record e { hazards = (with_items c.self.inside.hazards c.set_word.new.words).items }) c.args.session c.stored.new.self) c.args.session c.stored.result) c.self.view_is
      (store-fewer c.calls_end.ensures.stores e c.args.session c.args.word c.args.value c.index_mut.result.now c.stored.new.self c.stored.result (with_items c.self.inside.hazards c.set_word.new.words).items at on c.stored.ensures);
  kept = keeps-from e c.args.self.now c.self.view_is (store-keeps c.seats_stay.ensures.stores c.calls_run.ensures.stores c.answers_are_own.ensures.stores e c.args.session c.index_mut.result.now c.stored.new.self c.stored.result (with_items c.self.inside.hazards c.set_word.new.words).items at c.stored.ensures);
  tells = subst (λ (x : Engine). TellsFrom (answer_in x c.args.session) c.stored.result) c.self.view_is
      (store-tells-from c.answers_are_own.ensures.stores e c.args.session c.index_mut.result.now c.stored.new.self c.stored.result at c.stored.ensures);
} where
  hazards-are : (with_items c.self.inside.hazards c.set_word.new.words).items ≡ c.set_word.new.words
  hazards-are = with_items_is c.self.inside.hazards c.set_word.new.words (c.set_word.auto.words ∙ c.as_mut_slice.ensures.len)

  e : Engine
  e = record { hub = c.self.inside.hub; pieces = c.self.inside.pieces.items; states = c.self.inside.states.items; hazards = c.self.inside.hazards.items; sessions = c.self.inside.sessions.items; systems = c.self.inside.systems.items }

  open_one : c.args.session < length e.sessions
  open_one = subst (λ (x : Engine). c.args.session < length x.sessions) (sym c.self.view_is) c.requires.open

  at : slice_get e.sessions c.args.session ≡ Some c.index_mut.result.now
  at = lent-at e.sessions c.args.session c.index_mut.result.now open_one c.index_mut.ensures.value

  on : next_of c.index_mut.result.now ≡ next.Store c.args.word c.args.value
  on = c.requires.next c.index_mut.result.now (subst (λ (x : Engine). slice_get x.sessions c.args.session ≡ Some c.index_mut.result.now) c.self.view_is at)

  words : c.set_word.new.words ≡ slice_set e.hazards (c.args.session * 5 + c.args.word) c.args.value
  words = c.set_word.ensures ∙ ap (λ (ws : List ℕ). slice_set ws (c.args.session * 5 + c.args.word) c.args.value) c.as_mut_slice.ensures.value

  laws : StoreLaws
  laws = record {
    publishes = c.publishes_go.ensures;
    clears = c.clears_go.ensures;
    resets = c.resets_go.ensures;
    unpins = c.unpins_go.ensures;
  }
