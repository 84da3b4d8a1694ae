use Rattle.std.proofs.Common.{◌≡◌, ◌<◌, ℕ, ap, sym, ◌∙◌, length, subst, arith}
use Rattle.std.specs.Prelude.{Some, slice_get}
use Rattle.std.proofs.lemmas.List.{length-set}
use Rattle.std.proofs.lemmas.Option.{same_Some, slice_get_within}
use Rattle.call_steps.specs.declared.next.Next.TheVariants as next
use Rattle.call_steps.specs.State.{State}
use Rattle.call_steps.specs.Words.{next_of}
use Rattle.engine_world.specs.Laws.{with_session}
use Rattle.engine_world.specs.Stands.{Engine, Stands}
use Rattle.engine_world.specs.Steps.{MayKeepOut}
use Rattle.engine_world.specs.Worlds.{World}
use Rattle.engine.specs.Sound.{IsSound}
use Rattle.engine.specs.Told.{KeepsOut}
use Rattle.engine.specs.Waits.{turns_in, waits_at, waits_in}
use Rattle.engine.proofs.Calling.{kept-under}
use Rattle.engine.proofs.Driving.{keep-out-step, lent-at}
use Rattle.engine.proofs.Owning.{keeps-out}
use Rattle.engine.proofs.Soundness.{keep-out-sound}
use Rattle.engine.proofs.Turns.{keep-out-fewer, set-at}
use Rattle.engine.proofs.Waited.{IsHeld, held, kept-goes, waits-now}
use Rattle.engine.proofs.parts.Parts.keep_out.Goals as goal

pub index_mut-requires : goal.index_mut-requires
index_mut-requires c = let within = slice_get_within e.sessions c.args.session h.state h.at in let held = c.self.inside.sessions.ok.0 in omega (arith, within, held) where
  e : Engine
  e = record { hub = c.self.inside.hub; pieces = c.self.inside.pieces.items; states = c.self.inside.states.items; hazards = c.self.inside.hazards.items; sessions = c.self.inside.sessions.items; systems = c.self.inside.systems.items }

  leaf : ℕ
  leaf = c.requires.waits.0

  h : IsHeld e c.args.session leaf
  h = held e c.args.session leaf (subst (λ (x : Engine). waits_in x c.args.session ≡ Some leaf) (sym c.self.view_is) c.requires.waits.1)

pub returns : goal.returns
returns c = record {
  steps = steps;
  reaches = λ w now asked inside under st. let k = steps now st in (k.0, kept-under c.kept_out_reaches.ensures w now k.0 c.args.session asked c.args.refusal inside under k.1, k.2);
  ready = waits-now new c.args.session a' (set-at e.sessions c.args.session a a' at) ∙ (ap (λ (x : State). waits_at e.hub.dir.leaves (next_of x)) c.keep_out.ensures ∙ kept-goes e.hub.dir.leaves a leaf on c.args.refusal);
  fewer = subst (λ (x : Engine). turns_in new c.args.session < turns_in x c.args.session) c.self.view_is (keep-out-fewer c.calls_end.ensures.kept_out e c.args.session leaf a a' c.args.refusal at on c.keep_out.ensures);
  hub = ap (λ (x : Engine). x.hub) c.self.view_is;
  sessions = length-set e.sessions c.args.session a' ∙ ap (λ (x : Engine). length x.sessions) c.self.view_is;
  own = subst (λ (x : Engine). KeepsOut c.args.session c.args.refusal x new) c.self.view_is (keeps-out e c.args.session a a' leaf c.args.refusal at on c.keep_out.ensures);
  sound = keep-out-sound c.seats_stay.ensures.kept_out c.calls_run.ensures.kept_out e c.args.session a a' c.args.refusal at c.keep_out.ensures (subst (λ (x : Engine). IsSound x) (sym c.self.view_is) c.requires.sound);
} where
  e : Engine
  e = record { hub = c.self.inside.hub; pieces = c.self.inside.pieces.items; states = c.self.inside.states.items; hazards = c.self.inside.hazards.items; sessions = c.self.inside.sessions.items; systems = c.self.inside.systems.items }

  leaf : ℕ
  leaf = c.requires.waits.0

  h : IsHeld e c.args.session leaf
  h = held e c.args.session leaf (subst (λ (x : Engine). waits_in x c.args.session ≡ Some leaf) (sym c.self.view_is) c.requires.waits.1)

  a : State
  a = c.index_mut.result.now

  a' : State
  a' = c.keep_out.new.self

  new : Engine
  new = with_session e c.args.session a'

  at : slice_get e.sessions c.args.session ≡ Some a
  at = lent-at e.sessions c.args.session a (slice_get_within e.sessions c.args.session h.state h.at) c.index_mut.ensures.value

  on : next_of a ≡ next.Fill leaf
  on = subst (λ (x : State). next_of x ≡ next.Fill leaf) (same_Some h.state a (sym h.at ∙ at)) h.on

  steps : (w : World) → Stands c.args.self.now w → (later : World) × MayKeepOut w c.args.session c.args.refusal later × Stands new later
  steps w st = keep-out-step c.keeps_out_go.ensures e c.args.session leaf a a' c.args.refusal at on c.requires.refusal c.keep_out.ensures w (subst (λ (x : Engine). Stands x w) (sym c.self.view_is) st)
