-- One step of a session, over the data of an engine.
use Rattle.std.proofs.Common.{◌≡◌, ◌≢◌, ◌<◌, ℕ, refl, ap, sym, ◌∙◌, List, length, subst, get_or}
use Rattle.std.specs.Prelude.{Some, slice_get, slice_set}
use Rattle.std.proofs.lemmas.List.{set-get_or}
use Rattle.std.proofs.lemmas.Option.{slice_get_read}
use Rattle.stamp.specs.declared.View.{View}
use Rattle.wt_code.specs.declared.answers.Answer.TheVariants as answers
use Rattle.wt_code.specs.declared.refusals.Refusal.{Refusal}
use Rattle.wt_code.specs.declared.refusals.Refusal.TheVariants as refusal
use Rattle.wt_code.specs.declared.refusals.Invalid.TheVariants.{NoCall}
use Rattle.wt_calls.specs.declared.session_call.SessionCall.{SessionCall}
use Rattle.wt_calls.specs.Calls.{session_call_in}
use Rattle.call_steps.specs.declared.frame.FramePiece.{FramePiece}
use Rattle.call_steps.specs.declared.hub.Hub.{Hub}
use Rattle.call_steps.specs.declared.next.Next.TheVariants as next
use Rattle.call_steps.specs.declared.reply.Reply.{Reply}
use Rattle.call_steps.specs.declared.reply.Reply.TheVariants as reply
use Rattle.call_steps.specs.declared.stage.Stage.{Stage}
use Rattle.call_steps.specs.declared.stage.Stage.TheVariants as stage
use Rattle.call_steps.specs.HubEvents.{Made, hub_made}
use Rattle.call_steps.specs.Starts.{Starts}
use Rattle.call_steps.specs.State.{State}
use Rattle.call_steps.specs.Words.{kept_out, next_at, next_of, loaded, stored}
use Rattle.call_turns.specs.Turns.{IsHubNext}
use Rattle.engine_world.specs.Doings.{doing_at}
use Rattle.engine_world.specs.Laws.{KeepsOutGo, Leads, IsViewOf, LoadGoes, StartsGo, with_hub, with_hazard, with_session}
use Rattle.engine_world.specs.Leaves.{word_at}
use Rattle.engine_world.specs.Stands.{Engine, Stands}
use Rattle.engine_world.specs.Steps.{GoesOn, MayBegin, MayKeepOut}
use Rattle.engine_world.specs.Worlds.{World, Resting, doing_of}
use Rattle.engine.specs.Events.{IsFrameEvent}
use Rattle.engine.proofs.Stepping.{HubLaws, FrameLaws, StoreLaws, hub-goes, frame-goes, store-goes}
use Rattle.engine.proofs.Waited.{at-fill}

-- an element that was lent is that of the list
pub lent-at : {A : Type 0} (xs : List A) (i : ℕ) (x : A) → i < length xs → x ≡ get_or xs i x → slice_get xs i ≡ Some x
lent-at xs i x inside is = slice_get_read xs (length xs) i x refl inside is

pub hub-step : HubLaws → (e : Engine) (session : ℕ) (a a' : State) (hub : Hub) (told : Reply) → slice_get e.sessions session ≡ Some a → IsHubNext e.hub a
    → (let made : Made = (told, (hub, a')) in made) ≡ hub_made e.hub session a → (w : World) → Stands e w → Leads (with_session (with_hub e hub) session a') w session told
hub-step laws e session a a' hub told at on made w st = subst (λ (m : Made). Leads (with_session (with_hub e m.1.0) session m.1.1) w session m.0) (sym made) (hub-goes laws e w session a st at on)

pub load-step : LoadGoes → (e : Engine) (session frame seen : ℕ) (a a' : State) → slice_get e.sessions session ≡ Some a → next_of a ≡ next.Load frame → seen ≡ word_at e.states frame → a' ≡ loaded seen a
    → (w : World) → Stands e w → Leads (with_session e session a') w session reply.More
load-step law e session frame seen a a' at on seen-is is w st = subst (λ x. Leads (with_session e session x) w session reply.More) (sym (is ∙ ap (λ n. loaded n a) seen-is)) (law e w session frame a st at on)

pub store-step : StoreLaws → (e : Engine) (session word value at : ℕ) (a a' : State) (told : Reply) (hazards : List ℕ) → slice_get e.sessions session ≡ Some a → next_of a ≡ next.Store word value
    → hazards ≡ slice_set e.hazards at value → (let made : Reply × State = (told, a') in made) ≡ stored a
    → (w : World) → Stands e w → Leads (with_session (record e { hazards = hazards }) session a') w session told
store-step laws e session word value at a a' told hazards there on hazards-are made w st =
    subst (λ h. Leads (with_session (record e { hazards = h }) session a') w session told) (sym hazards-are)
    (subst (λ (m : Reply × State). Leads (with_session (with_hazard e at value) session m.1) w session m.0) (sym made) (store-goes laws e w session word value at a st there on))

pub frame-step : FrameLaws → (e : Engine) (session frame : ℕ) (view : View) (pieces : List FramePiece) (sessions : List State) → IsFrameEvent view session frame e.pieces e.sessions pieces sessions
    → ((a : State) → slice_get e.sessions session ≡ Some a → next_of a ≡ next.Frame frame) → IsViewOf e.hub session view
    → (w : World) → Stands e w → Leads (record e { pieces = pieces; sessions = sessions }) w session reply.More
frame-step laws e session frame view pieces sessions v on is-view w st =
    subst (λ ps. Leads (record e { pieces = ps; sessions = sessions }) w session reply.More) (sym v.pieces_are)
    (subst (λ ss. Leads (record e { pieces = slice_set e.pieces frame v.p'; sessions = ss }) w session reply.More) (sym v.sessions_are)
    (frame-goes laws e w session frame v.a v.a' v.p v.p' view st v.session_is (on v.a v.session_is) v.piece is-view v.made))

pub start-step : StartsGo → (e : Engine) (session : ℕ) (a a' : State) (call : SessionCall) (told : Reply) → slice_get e.sessions session ≡ Some a → Starts call a told a'
    → (w : World) → Stands e w → (later : World) × MayBegin w session (session_call_in call) told later × Stands (with_session e session a') later
start-step law e session a a' call told at starts w st = law e w session a a' call told st at starts

-- a step where there is no call
pub rest-step : (e : Engine) (session : ℕ) (a : State) → slice_get e.sessions session ≡ Some a → next.Nothing ≡ next_of a
    → (w : World) → Stands e w → Leads e w session (reply.Answer (answers.Refused (refusal.Invalid NoCall)))
rest-step e session a at on w st = (
  later,
  record {
    made = record { told = reply.Answer (answers.Refused (refusal.Invalid NoCall)); machine = w.machine; doing = Resting };
    goes = subst (λ d. GoesOn (w.again session) d w.machine session (record { told = reply.Answer (answers.Refused (refusal.Invalid NoCall)); machine = w.machine; doing = Resting })) (sym rests) refl;
    tells = refl;
    leaves = refl;
  },
  subst (Stands e) (sym same) st,
) where
  later : World
  later = record w { machine = w.machine; sessions = slice_set w.sessions session Resting }

  by-stage : (s : Stage) → next.Nothing ≡ next_at s a → doing_at s e.hub.dir.leaves session a ≡ Resting
  by-stage stage.Rest to = refl
  by-stage (stage.Begin read) to = absurd (cc)
  by-stage (stage.Find call) to = absurd (cc)
  by-stage (stage.Fill call wanted) to = absurd (cc)
  by-stage (stage.Publish call target) to = absurd (cc)
  by-stage (stage.Validate call target) to = absurd (cc)
  by-stage (stage.Look call target) to = absurd (cc)
  by-stage (stage.Pass call target) to = absurd (cc)
  by-stage (stage.History call target) to = absurd (cc)
  by-stage (stage.ClearCursor call target) to = absurd (cc)
  by-stage (stage.Clear call target) to = absurd (cc)
  by-stage (stage.Reset cursor) to = absurd (cc)
  by-stage (stage.Mark stamp left) to = absurd (cc)
  by-stage (stage.Release stamp) to = absurd (cc)
  by-stage (stage.Order stamps left) to = absurd (cc)
  by-stage (stage.Stamp stamps left) to = absurd (cc)
  by-stage (stage.Decide stamps) to = absurd (cc)
  by-stage stage.Resolve to = absurd (cc)
  by-stage (stage.Undo left) to = absurd (cc)
  by-stage stage.Done to = absurd (cc)
  by-stage (stage.Unpin cursor) to = absurd (cc)

  rests : doing_of w session ≡ Resting
  rests = st.doing session a at ∙ by-stage a.stage on

  same : later ≡ w
  same = λ i. record w { sessions = (ap (slice_set w.sessions session) (sym rests) ∙ set-get_or w.sessions session Resting) i }

-- a call that is kept from its leaf
pub keep-out-step : KeepsOutGo → (e : Engine) (session leaf : ℕ) (a a' : State) (r : Refusal) → slice_get e.sessions session ≡ Some a → next_of a ≡ next.Fill leaf → r ≢ refusal.NotFound → a' ≡ kept_out r a
    → (w : World) → Stands e w → (later : World) × MayKeepOut w session r later × Stands (with_session e session a') later
keep-out-step law e session leaf a a' r at on other made w st = subst (λ (x : State). (later : World) × MayKeepOut w session r later × Stands (with_session e session x) later) (sym made) (law e w session a r st at (at-fill a leaf on) other)
