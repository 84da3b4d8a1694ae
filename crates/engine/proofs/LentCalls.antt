-- Calls whose items are lent: they start, or memory is too short for the copies and nothing has changed.
use Rattle.std.proofs.Common.{◌≡◌, ℕ, refl, ap, sym, ◌∙◌, inr, List, Result, Ok, Err, subst}
use Rattle.std.specs.Prelude.{Some, slice_get, slice_set, IfOk, OnErr}
use Rattle.std.proofs.lemmas.List.{set-get_or}
use Rattle.std.proofs.lemmas.Option.{get_or_from_slice_get}
use Rattle.wt_code.specs.declared.answers.Answer.TheVariants as answers
use Rattle.wt_code.specs.declared.refusals.Refusal.TheVariants as refusal
use Rattle.wt_calls.specs.declared.session_call.SessionCall.{SessionCall}
use Rattle.wt_calls.specs.Calls.{session_call_in}
use Rattle.kv_model.specs.Calls.{Call, HeldUp}
use Rattle.call_steps.specs.declared.reply.Reply.{Reply}
use Rattle.call_steps.specs.declared.stage.Stage.{Stage}
use Rattle.call_steps.specs.declared.stage.Stage.TheVariants as stage
use Rattle.call_steps.specs.Starts.{Starts}
use Rattle.call_steps.specs.State.{State}
use Rattle.call_turns.specs.Answers.{StartTells}
use Rattle.call_turns.specs.Seats.{StartRuns, StartSeats}
use Rattle.engine_world.specs.Doings.{doing_at}
use Rattle.engine_world.specs.Laws.{StartsGo, with_session}
use Rattle.engine_world.specs.Stands.{Engine, Stands}
use Rattle.engine_world.specs.Steps.{MayBegin}
use Rattle.engine_world.specs.Whole.{nothing_around}
use Rattle.engine_world.specs.Worlds.{World, Doing, Resting, doing_of}
use Rattle.engine.specs.Sound.{Keeps}
use Rattle.engine.specs.Told.{TellsFrom}
use Rattle.engine.specs.Whole.{CallsIn, MayCall}
use Rattle.engine.proofs.Driving.{start-step}
use Rattle.engine.proofs.Owning.{start-tells-own}
use Rattle.engine.proofs.Soundness.{keeps-same, start-keeps}

-- what a start by lent items may make of a session
pub record LentStarts {E : Type 0} (call : SessionCall) (a a' : State) (r : Result Reply E) : Type 0 where
  pub started : IfOk r (λ told. Starts call a told a')
  pub rests : OnErr r (a.stage ≡ stage.Rest)
  pub kept : OnErr r (a' ≡ a)

same-engine : (e : Engine) (session : ℕ) (a a' : State) → slice_get e.sessions session ≡ Some a → a' ≡ a → with_session e session a' ≡ e
same-engine e session a a' at same =
    let own = get_or_from_slice_get e.sessions session a a at in
    ap (λ (xs : List State). record e { sessions = xs }) (ap (slice_set e.sessions session) (same ∙ sym own) ∙ set-get_or e.sessions session a)

pub lent-begins : {E : Type 0} → StartsGo → (e : Engine) (session : ℕ) (a a' : State) (call : SessionCall) (r : Result Reply E) → slice_get e.sessions session ≡ Some a → LentStarts call a a' r
    → IfOk r (λ told. (w : World) → Stands e w → (later : World) × MayBegin w session (session_call_in call) told later × Stands (with_session e session a') later)
lent-begins law e session a a' call (Ok told) at starts = start-step law e session a a' call told at starts.started
lent-begins law e session a a' call (Err none) at starts = tt

pub lent-rests : {E : Type 0} (e : Engine) (session : ℕ) (a a' : State) (call : SessionCall) (r : Result Reply E) → slice_get e.sessions session ≡ Some a → LentStarts call a a' r
    → OnErr r ((w : World) → Stands e w → (doing_of w session ≡ Resting) × Stands (with_session e session a') w)
lent-rests e session a a' call (Ok told) at starts = tt
lent-rests e session a a' call (Err none) at starts = λ w st. (
  st.doing session a at ∙ ap (λ (s : Stage). doing_at s e.hub.dir.leaves session a) starts.rests,
  subst (λ (x : Engine). Stands x w) (sym (same-engine e session a a' at starts.kept)) st,
)

pub lent-keeps : {E : Type 0} → StartSeats → StartRuns → StartTells → (e : Engine) (session : ℕ) (a a' : State) (call : SessionCall) (r : Result Reply E) → slice_get e.sessions session ≡ Some a → LentStarts call a a' r → Keeps e (with_session e session a')
lent-keeps seats runs tells e session a a' call (Ok told) at starts = start-keeps seats runs tells e session a a' call told at starts.started
lent-keeps seats runs tells e session a a' call (Err none) at starts = subst (λ (x : Engine). Keeps e x) (sym (same-engine e session a a' at starts.kept)) (keeps-same e)

pub lent-tells : {E : Type 0} (call : SessionCall) (a a' : State) (r : Result Reply E) → LentStarts call a a' r → IfOk r (λ told. TellsFrom answers.Done told)
lent-tells call a a' (Ok told) starts = start-tells-own call a a' told starts.started
lent-tells call a a' (Err none) starts = tt

-- memory was too short before the event that finds the key
pub held-up : (w : World) (session : ℕ) (call : Call) → HeldUp nothing_around w.machine session call (answers.Refused refusal.NoMemory) w.machine → doing_of w session ≡ Resting → MayCall w session call (answers.Refused refusal.NoMemory) w
held-up w session call short rests = subst (λ (d : Doing). CallsIn d w session call (answers.Refused refusal.NoMemory) w) (sym rests) (inr short, refl)
