-- A call is turned away from a leaf whose frame has another state word than that which it had found.
use Rattle.std.proofs.Common.{◌≡◌, ◌≢◌, ◌<◌, ℕ, Bool, refl, ap, sym, ◌∙◌, subst, inl, List, arith}
use Rattle.std.specs.Prelude.{Option, Some, None, if◌then◌else◌, option_and_then, slice_get}
use Rattle.std.proofs.lemmas.Bool.{ne_eqb}
use Rattle.std.proofs.lemmas.Option.{same_Some}
use Rattle.wt_code.specs.declared.answers.Answer.{Answer}
use Rattle.wt_code.specs.declared.answers.Answer.TheVariants as answers
use Rattle.wt_code.specs.declared.refusals.Refusal.TheVariants as refusal
use Rattle.kv_model.specs.Machine.{Event, Nothing, of_some}
use Rattle.call_steps.specs.declared.next.Next.TheVariants as next
use Rattle.call_steps.specs.declared.reply.Reply.TheVariants as reply
use Rattle.call_steps.specs.declared.stage.KeyCall.{KeyCall}
use Rattle.call_steps.specs.declared.stage.Stage.{Stage}
use Rattle.call_steps.specs.declared.stage.Stage.TheVariants as stage
use Rattle.call_steps.specs.declared.stage.Target.{Target}
use Rattle.call_steps.specs.State.{State, at_stage, clears}
use Rattle.call_steps.specs.Words.{loaded, loaded_at, next_at, next_of}
use Rattle.call_turns.specs.Turns.{LoadLowers}
use Rattle.engine_world.specs.Doings.{doing_in}
use Rattle.engine_world.specs.Laws.{with_session}
use Rattle.engine_world.specs.Stages.{HasFound, HasLooked}
use Rattle.engine_world.specs.Stands.{Engine, Stands}
use Rattle.engine_world.specs.Steps.{IsKeptOut, Made, MayKeepOut}
use Rattle.engine_world.specs.Worlds.{Doing, Decided, World, doing_of}
use Rattle.engine_world.proofs.HubMoves.{doing-at, stage-stands}
use Rattle.engine_world.proofs.InPlace.{SessionInPlace}
use Rattle.engine_world.proofs.KeepingOut.{no-event}
use Rattle.engine_world.proofs.Looking.{clears-keep, keeps, stands-at}
use Rattle.engine_world.proofs.Moves.{alone, moves, world_with}
use Rattle.engine.specs.Told.{answer_in}
use Rattle.engine.specs.declared.turning.Evicting.{Evicting}
use Rattle.engine.specs.Turning.{IsComing, IsTurned, coming_in}
use Rattle.engine.specs.Waits.{turns_in}
use Rattle.engine.proofs.Turns.{load-fewer, set-at}

-- the stage of a call that comes to its leaf
pub record ComesBy (g : Stage) (target : Target) : Type 0 where
  pub call : KeyCall
  pub stage_is : g ≡ stage.Validate call target

pub comes-by : (g : Stage) (target : Target) → coming_in g ≡ Some target → ComesBy g target
comes-by (stage.Validate call other) target is = record { call = call; stage_is = ap (λ (t : Target). stage.Validate call t) (same_Some other target is) }
comes-by _ target is = absurd (cc)

-- its next event is a load
pub comes-load : (a : State) (target : Target) → coming_in a.stage ≡ Some target → next_of a ≡ next.Load target.frame
comes-load a target is = ap (λ (g : Stage). next_at g a) (comes-by a.stage target is).stage_is

-- it is refused
clears-is : (a : State) (call : KeyCall) (target : Target) (seen : ℕ) → a.stage ≡ stage.Validate call target → seen ≢ target.word → loaded seen a ≡ clears call target (answers.Refused (refusal.Again seen)) a
clears-is a call target seen is other = ap (λ (g : Stage). loaded_at g seen a) is
    ∙ ap (λ (b : Bool). if b then at_stage (stage.Look call target) a else clears call target (answers.Refused (refusal.Again seen)) a) (ne_eqb seen target.word other)

module _ (e : Engine) (w : World) (session : ℕ) (a : State) (seen : ℕ) (st : Stands e w) (at : slice_get e.sessions session ≡ Some a) where
  abbrev told : Answer (List ℕ)
  told = answers.Refused (refusal.Again seen)

  refused : (call : KeyCall) (target : Target) → a.stage ≡ stage.Validate call target → (after : World) × MayKeepOut w session (refusal.Again seen) after × Stands (with_session e session (clears call target told a)) after
  refused call target is = (world_with w e.hub.dir.leaves session b w.machine, record { made = made; keeps = keeps-out; leaves = refl }, moves e w session a b e.hub e.pieces e.hazards w.machine st at (alone e w session b st mine)) where
    b : State
    b = clears call target told a

    found : HasFound w.machine e.hub.dir.leaves e.pieces session call target a
    found = stage-stands e w session a (stage.Validate call target) st at is

    looked : HasLooked w.machine session call
    looked = (found.0.0.0, found.0.0.1, inl found.0.0.2.0)

    mine : SessionInPlace w.machine e.hub e.pieces session b
    mine = stands-at w.machine e.hub e.pieces session b
        (clears-keep w.machine e.hub e.pieces session call target told a (keeps w.machine e.hub e.pieces session a (st.sessions session a at))) looked

    made : Made
    made = record { told = reply.More; machine = w.machine; doing = doing_in e.hub.dir.leaves session b }

    does : made ≡ record { told = reply.More; machine = w.machine; doing = Decided told Nothing 1 }
    does = ap (λ (event : Event). to (Decided told event 1)) (no-event session call target a.key (refusal.Again seen) (λ is. absurd cc)) where
      to : Doing → Made
      to doing = record { told = reply.More; machine = w.machine; doing = doing }

    keeps-out : IsKeptOut (doing_of w session) (refusal.Again seen) w.machine made
    keeps-out = subst (λ (d : Doing). IsKeptOut d (refusal.Again seen) w.machine made) (sym (st.doing session a at ∙ doing-at e.hub.dir.leaves session a (stage.Validate call target) is)) (1, omega arith, does)

pub turned-step : (e : Engine) (session : ℕ) (a a' : State) (target : Target) (seen : ℕ) → slice_get e.sessions session ≡ Some a → coming_in a.stage ≡ Some target → seen ≢ target.word → a' ≡ loaded seen a
    → (w : World) → Stands e w → (later : World) × MayKeepOut w session (refusal.Again seen) later × Stands (with_session e session a') later
turned-step e session a a' target seen at comes other made w st =
    let by = comes-by a.stage target comes in
    subst (λ (x : State). (later : World) × MayKeepOut w session (refusal.Again seen) later × Stands (with_session e session x) later) (sym (made ∙ clears-is a by.call target seen by.stage_is other))
    (refused e w session a seen st at by.call target by.stage_is)

-- that is what it keeps
pub turned-told : (e : Engine) (session : ℕ) (a a' : State) (target : Target) (seen : ℕ) → slice_get e.sessions session ≡ Some a → coming_in a.stage ≡ Some target → seen ≢ target.word → a' ≡ loaded seen a
    → answer_in (with_session e session a') session ≡ answers.Refused (refusal.Again seen)
turned-told e session a a' target seen at comes other made =
    let by = comes-by a.stage target comes in
    ap (of_some answers.Done (λ (x : State). x.answer)) (set-at e.sessions session a a' at) ∙ ap (λ (x : State). x.answer) (made ∙ clears-is a by.call target seen by.stage_is other)

-- and it has fewer steps left
pub turned-fewer : LoadLowers → (e : Engine) (session : ℕ) (a a' : State) (target : Target) (seen : ℕ) → slice_get e.sessions session ≡ Some a → coming_in a.stage ≡ Some target → a' ≡ loaded seen a → turns_in (with_session e session a') session < turns_in e session
turned-fewer law e session a a' target seen at comes made = load-fewer law e session target.frame seen a a' reply.More at (comes-load a target comes) made (λ answer is. absurd (cc))

-- the state that is there comes so
pub comes-here : (e : Engine) (session seen : ℕ) (a : State) → slice_get e.sessions session ≡ Some a → (x : IsComing e session seen) → coming_in a.stage ≡ Some x.target
comes-here e session seen a at x = subst (λ (b : State). coming_in b.stage ≡ Some x.target) (same_Some x.state a (sym x.at ∙ at)) x.comes

-- a call that is turned away comes so
pub turned-comes : (e : Engine) (session : ℕ) (evicting : List (Option Evicting)) (seen : ℕ) → IsTurned e session evicting seen → IsComing e session seen
turned-comes e session evicting seen x = by (slice_get e.sessions session) refl x.comes where
  by : (o : Option State) → slice_get e.sessions session ≡ o → option_and_then (λ (a : State). coming_in a.stage) o ≡ Some x.target → IsComing e session seen
  by None at is = absurd (cc)
  by (Some a) at is = record { state = a; at = at; target = x.target; comes = is; other = λ same. let above = x.sees.above in absurd (omega (arith, above, same)) }
