use Rattle.std.proofs.Common.{◌≡◌, ◌<◌, refl, sym, ◌∙◌, List, length, get_or, subst, arith}
use Rattle.std.specs.Prelude.{Some, IsNone, slice_get}
use Rattle.std.specs.Vec.{with_items}
use Rattle.std.proofs.lemmas.List.{with_items_is}
use Rattle.std.proofs.lemmas.Option.{slice_get-get_or}
use Rattle.wt_code.specs.declared.answers.Answer.TheVariants as answers
use Rattle.wt_code.specs.declared.refusals.Refusal.TheVariants as refusal
use Rattle.call_steps.specs.declared.frame.FramePiece.{FramePiece}
use Rattle.call_steps.specs.declared.next.Next.TheVariants as next
use Rattle.call_steps.specs.declared.reply.Reply.{Reply}
use Rattle.call_steps.specs.declared.reply.Reply.TheVariants as reply
use Rattle.call_steps.specs.State.{State, opened}
use Rattle.call_steps.specs.Words.{next_of}
use Rattle.engine_world.specs.Laws.{IsViewOf, Leads}
use Rattle.engine_world.specs.Stands.{Engine, Stands}
use Rattle.engine_world.specs.Worlds.{World}
use Rattle.engine.specs.Events.{IsFrameEvent}
use Rattle.engine.specs.Goings.{LeavesFewer}
use Rattle.engine.specs.Sound.{Keeps}
use Rattle.engine.specs.Told.{TellsFrom, answer_in}
use Rattle.engine.proofs.Driving.{frame-step}
use Rattle.engine.proofs.Soundness.{frame-keeps, keeps-from, keeps-same}
use Rattle.engine.proofs.Stepping.{FrameLaws, HasFrame, has-frame}
use Rattle.engine.proofs.Turns.{answer-fewer, frame-fewer}
use Rattle.engine.proofs.parts.Parts.go_on_frame.Goals as goal

pub returns-then-frame-len : goal.returns-then-frame-len
returns-then-frame-len c = record {
  step = λ w st. absurd (let there = (ready w st).there in let long = c.len.ensures in let past = c.if-frame-len.true in omega (arith, there, long, past));
  fewer = subst (λ (told : Reply). LeavesFewer c.args.self.now c.args.self.now c.args.session told) (sym c.no_frame.ensures) (answer-fewer c.args.self.now c.args.self.now c.args.session (answers.Refused refusal.CacheFull));
  kept = keeps-same c.args.self.now;
  tells = subst (TellsFrom (answer_in c.args.self.now c.args.session)) (sym c.no_frame.ensures) (λ but own. tt);
} where
  e : Engine
  e = record { hub = c.self.inside.hub; pieces = c.self.inside.pieces.items; states = c.self.inside.states.items; hazards = c.self.inside.hazards.items; sessions = c.self.inside.sessions.items; systems = c.self.inside.systems.items }

  open_one : c.args.session < length e.sessions
  open_one = subst (λ (x : Engine). c.args.session < length x.sessions) (sym c.self.view_is) c.requires.open

  here : State
  here = get_or e.sessions c.args.session opened

  at : slice_get e.sessions c.args.session ≡ Some here
  at = slice_get-get_or e.sessions c.args.session opened open_one

  on : next_of here ≡ next.Frame c.args.frame
  on = c.requires.next here (subst (λ (x : Engine). slice_get x.sessions c.args.session ≡ Some here) c.self.view_is at)

  ready : (w : World) → Stands c.args.self.now w → HasFrame e c.args.session c.args.frame
  ready w st = has-frame e w c.args.session c.args.frame here (subst (λ (x : Engine). Stands x w) (sym c.self.view_is) st) at on

pub returns-in-None : goal.returns-in-None
returns-in-None c = record {
  step = λ w st. absurd ((ready w st).busy (c.view.ensures.none.0 (subst (λ o. IsNone o) (sym c.in-None.is) refl)));
  fewer = subst (λ (told : Reply). LeavesFewer c.args.self.now c.args.self.now c.args.session told) (sym c.no_frame-in-None.ensures) (answer-fewer c.args.self.now c.args.self.now c.args.session (answers.Refused refusal.CacheFull));
  kept = keeps-same c.args.self.now;
  tells = subst (TellsFrom (answer_in c.args.self.now c.args.session)) (sym c.no_frame-in-None.ensures) (λ but own. tt);
} where
  e : Engine
  e = record { hub = c.self.inside.hub; pieces = c.self.inside.pieces.items; states = c.self.inside.states.items; hazards = c.self.inside.hazards.items; sessions = c.self.inside.sessions.items; systems = c.self.inside.systems.items }

  open_one : c.args.session < length e.sessions
  open_one = subst (λ (x : Engine). c.args.session < length x.sessions) (sym c.self.view_is) c.requires.open

  here : State
  here = get_or e.sessions c.args.session opened

  at : slice_get e.sessions c.args.session ≡ Some here
  at = slice_get-get_or e.sessions c.args.session opened open_one

  on : next_of here ≡ next.Frame c.args.frame
  on = c.requires.next here (subst (λ (x : Engine). slice_get x.sessions c.args.session ≡ Some here) c.self.view_is at)

  ready : (w : World) → Stands c.args.self.now w → HasFrame e c.args.session c.args.frame
  ready w st = has-frame e w c.args.session c.args.frame here (subst (λ (x : Engine). Stands x w) (sym c.self.view_is) st) at on

pub returns-in-Some : goal.returns-in-Some
returns-in-Some c = record {
  step = λ w st. subst (λ ps. Leads (record e { pieces = ps; sessions = (with_items c.self.inside.sessions c.frame_step.new.sessions).items }) w c.args.session reply.More) (sym pieces-are)
      (subst (λ ss. Leads (record e { pieces = c.frame_step.new.pieces; sessions = ss }) w c.args.session reply.More) (sym sessions-are)
      (frame-step laws e c.args.session c.args.frame c.in-Some.view c.frame_step.new.pieces c.frame_step.new.sessions made on is-view w (subst (λ (x : Engine). Stands x w) (sym c.self.view_is) st)));
  fewer = subst (λ (x : Engine). LeavesFewer x (record e { pieces = (with_items c.self.inside.pieces c.frame_step.new.pieces).items; sessions = (with_items c.self.inside.sessions c.frame_step.new.sessions).items }) c.args.session reply.More) c.self.view_is
      (subst (λ ps. LeavesFewer e (record e { pieces = ps; sessions = (with_items c.self.inside.sessions c.frame_step.new.sessions).items }) c.args.session reply.More) (sym pieces-are)
      (subst (λ ss. LeavesFewer e (record e { pieces = c.frame_step.new.pieces; sessions = ss }) c.args.session reply.More) (sym sessions-are)
      (frame-fewer c.calls_end.ensures.frames e c.args.session c.args.frame c.in-Some.view c.frame_step.new.pieces c.frame_step.new.sessions reply.More made on)));
  kept = keeps-from e c.args.self.now c.self.view_is
      (subst (λ ps. Keeps e (record e { pieces = ps; sessions = (with_items c.self.inside.sessions c.frame_step.new.sessions).items })) (sym pieces-are)
      (subst (λ ss. Keeps e (record e { pieces = c.frame_step.new.pieces; sessions = ss })) (sym sessions-are)
      (frame-keeps c.seats_stay.ensures.frames c.calls_run.ensures.frames c.answers_are_own.ensures.frames e c.in-Some.view c.args.session c.args.frame c.frame_step.new.pieces c.frame_step.new.sessions made is-view)));
  tells = tt;
} where
  pieces-are : (with_items c.self.inside.pieces c.frame_step.new.pieces).items ≡ c.frame_step.new.pieces
  pieces-are = with_items_is c.self.inside.pieces c.frame_step.new.pieces (c.frame_step.auto.pieces ∙ c.as_mut_slice.ensures.len)

  sessions-are : (with_items c.self.inside.sessions c.frame_step.new.sessions).items ≡ c.frame_step.new.sessions
  sessions-are = with_items_is c.self.inside.sessions c.frame_step.new.sessions (c.frame_step.auto.sessions ∙ c.as_mut_slice-in-Some.ensures.len)

  e : Engine
  e = record { hub = c.self.inside.hub; pieces = c.self.inside.pieces.items; states = c.self.inside.states.items; hazards = c.self.inside.hazards.items; sessions = c.self.inside.sessions.items; systems = c.self.inside.systems.items }

  made : IsFrameEvent c.in-Some.view c.args.session c.args.frame e.pieces e.sessions c.frame_step.new.pieces c.frame_step.new.sessions
  made = subst (λ (ps : List FramePiece). IsFrameEvent c.in-Some.view c.args.session c.args.frame ps e.sessions c.frame_step.new.pieces c.frame_step.new.sessions) c.as_mut_slice.ensures.value
      (subst (λ (ss : List State). IsFrameEvent c.in-Some.view c.args.session c.args.frame c.as_mut_slice.result.now ss c.frame_step.new.pieces c.frame_step.new.sessions) c.as_mut_slice-in-Some.ensures.value c.frame_step.ensures)

  on : (a : State) → slice_get e.sessions c.args.session ≡ Some a → next_of a ≡ next.Frame c.args.frame
  on a there = c.requires.next a (subst (λ (x : Engine). slice_get x.sessions c.args.session ≡ Some a) c.self.view_is there)

  is-view : IsViewOf e.hub c.args.session c.in-Some.view
  is-view = record { own = c.in-Some.ensures.own; read = c.in-Some.ensures.read; sight = c.in-Some.ensures.sight }

  laws : FrameLaws
  laws = record {
    reads = c.reads_go.ensures;
    writes = c.writes_go.ensures;
    rows = c.rows_go.ensures;
    marks = c.marks_go.ensures;
    orders = c.orders_go.ensures;
    stamps = c.stamps_go.ensures;
    undos = c.undos_go.ensures;
  }
