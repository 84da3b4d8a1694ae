-- Each step keeps, and tells, an answer of the call's own.
use Rattle.std.proofs.Common.{◌≡◌, ◌≢◌, ℕ, zero, suc, refl, ap, sym, ◌∙◌, List, [], ◌∷◌, ◌++◌, subst}
use Rattle.std.specs.Prelude.{Some, slice_get, slice_set}
use Rattle.std.proofs.lemmas.Option.{same_Some}
use Rattle.wt_code.specs.declared.answers.Answer.{Answer}
use Rattle.wt_code.specs.declared.answers.Answer.TheVariants as answers
use Rattle.wt_code.specs.declared.answers.Answer.TheVariants.{Done}
use Rattle.wt_code.specs.declared.refusals.Refusal.{Refusal}
use Rattle.wt_calls.specs.declared.session_call.SessionCall.{SessionCall}
use Rattle.kv_model.specs.Machine.{of_some}
use Rattle.call_steps.specs.declared.hub.Hub.{Hub}
use Rattle.call_steps.specs.declared.next.Next.TheVariants as next
use Rattle.call_steps.specs.declared.reply.Reply.{Reply}
use Rattle.call_steps.specs.declared.reply.Reply.TheVariants as reply
use Rattle.call_steps.specs.declared.stage.Stage.{Stage}
use Rattle.call_steps.specs.declared.stage.Stage.TheVariants as stage
use Rattle.call_steps.specs.HubEvents.{Made, hub_made}
use Rattle.call_steps.specs.Starts.{Starts, StartsIn}
use Rattle.call_steps.specs.State.{State, opened}
use Rattle.call_steps.specs.Words.{kept_out, kept_out_at, next_of, stored}
use Rattle.call_turns.specs.Answers.{HubTells, IsOwnAnswer, StoreTells, TellsOwn}
use Rattle.engine_world.specs.Laws.{with_session}
use Rattle.engine_world.specs.Stands.{Engine}
use Rattle.engine.specs.declared.called.Called.{Called}
use Rattle.engine.specs.declared.called.Called.TheVariants as called
use Rattle.engine.specs.Told.{EndsFrom, IsOwnFrom, KeepOwn, KeepsOut, TellsFrom, answer_in}
use Rattle.engine.proofs.Turns.{set-at}
use Rattle.engine.proofs.Waited.{filling}

-- ---- what is kept

abbrev pub answer_at : List State → ℕ → Answer (List ℕ)
answer_at sessions session = of_some Done (λ (a : State). a.answer) (slice_get sessions session)

-- one session's state is another
pub own-set : (sessions : List State) (session : ℕ) (a b : State) → slice_get sessions session ≡ Some a → IsOwnFrom a.answer b.answer → (s : ℕ) → IsOwnFrom (answer_at sessions s) (answer_at (slice_set sessions session b) s)
own-set [] session a b at own s = absurd (cc)
own-set (x ∷ xs) zero a b at own zero = subst (λ (y : State). IsOwnFrom y.answer b.answer) (sym (same_Some x a at)) own
own-set (x ∷ xs) zero a b at own (suc s) = λ but is. is
own-set (x ∷ xs) (suc n) a b at own zero = λ but is. is
own-set (x ∷ xs) (suc n) a b at own (suc s) = own-set xs n a b at own s

-- the other sessions keep what they kept
others-set : (sessions : List State) (session : ℕ) (b : State) (s : ℕ) → s ≢ session → answer_at (slice_set sessions session b) s ≡ answer_at sessions s
others-set [] session b s other = refl
others-set (x ∷ xs) zero b zero other = absurd (other refl)
others-set (x ∷ xs) zero b (suc s) other = refl
others-set (x ∷ xs) (suc n) b zero other = refl
others-set (x ∷ xs) (suc n) b (suc s) other = others-set xs n b s (λ same. other (ap suc same))

-- a session that is opened keeps no refusal
own-more : (sessions : List State) (s : ℕ) → answer_at (sessions ++ opened ∷ []) s ≡ answer_at sessions s
own-more [] zero = refl
own-more [] (suc s) = refl
own-more (x ∷ xs) zero = refl
own-more (x ∷ xs) (suc s) = own-more xs s

-- the same answers are kept
own-same : (old new : Engine) → ((s : ℕ) → answer_in new s ≡ answer_in old s) → KeepOwn old new
own-same old new same s = subst (IsOwnFrom (answer_in old s)) (sym (same s)) (λ but is. is)

pub own-with : (old new : Engine) → new.sessions ≡ old.sessions → KeepOwn old new
own-with old new same = own-same old new (λ s. ap (λ (xs : List State). answer_at xs s) same)

pub own-opened : (old new : Engine) → new.sessions ≡ old.sessions ++ opened ∷ [] → KeepOwn old new
own-opened old new more = own-same old new (λ s. ap (λ (xs : List State). answer_at xs s) more ∙ own-more old.sessions s)

pub own-then : (old middle new : Engine) → KeepOwn old middle → KeepOwn middle new → KeepOwn old new
own-then old middle new k l s = λ but is. l s but (k s but is)

-- ---- what is told

pub tells-by : (kept : Answer (List ℕ)) (told : Reply) → ((but : Refusal) → IsOwnAnswer but kept → TellsOwn but told) → TellsFrom kept told
tells-by kept (reply.Answer answer) own = own
tells-by kept reply.More own = tt
tells-by kept reply.Started own = tt

-- what a call told whose steps before kept its own
pub tells-then : (kept middle : Answer (List ℕ)) (told : Reply) → IsOwnFrom kept middle → TellsFrom middle told → TellsFrom kept told
tells-then kept middle (reply.Answer answer) keeps own = λ but is. own but (keeps but is)
tells-then kept middle reply.More keeps own = tt
tells-then kept middle reply.Started keeps own = tt

pub ends-then : (kept middle : Answer (List ℕ)) (made : Called) → IsOwnFrom kept middle → EndsFrom middle made → EndsFrom kept made
ends-then kept middle (called.Ended answer) keeps own = λ but is. own but (keeps but is)
ends-then kept middle (called.Waits leaf) keeps own = tt

answer-is : (e : Engine) (session : ℕ) (a : State) → slice_get e.sessions session ≡ Some a → answer_in e session ≡ a.answer
answer-is e session a at = ap (of_some Done (λ (x : State). x.answer)) at

-- by an event of a session
tells-at : (e : Engine) (session : ℕ) (a : State) (told : Reply) → slice_get e.sessions session ≡ Some a → ((but : Refusal) → IsOwnAnswer but a.answer → TellsOwn but told) → TellsFrom (answer_in e session) told
tells-at e session a told at own = subst (λ (kept : Answer (List ℕ)). TellsFrom kept told) (sym (answer-is e session a at)) (tells-by a.answer told own)

pub hub-tells-from : HubTells → (e : Engine) (session : ℕ) (a a' : State) (hub : Hub) (told : Reply) → slice_get e.sessions session ≡ Some a → (let made : Made = (told, (hub, a')) in made) ≡ hub_made e.hub session a → TellsFrom (answer_in e session) told
hub-tells-from law e session a a' hub told at made = subst (λ (m : Made). TellsFrom (answer_in e session) m.0) (sym made) (tells-at e session a (hub_made e.hub session a).0 at (λ but is. (law but e.hub session a is).0))

pub store-tells-from : StoreTells → (e : Engine) (session : ℕ) (a a' : State) (told : Reply) → slice_get e.sessions session ≡ Some a → (let made : Reply × State = (told, a') in made) ≡ stored a → TellsFrom (answer_in e session) told
store-tells-from law e session a a' told at made = subst (λ (m : Reply × State). TellsFrom (answer_in e session) m.0) (sym made) (tells-at e session a (stored a).0 at (λ but is. (law but a is).0))

-- a start refuses only where a call is not finished
starts-own : (g : Stage) (call : SessionCall) (a a' : State) (told : Reply) → StartsIn g call a told a' → TellsFrom Done told
starts-own stage.Rest call a a' told x = subst (TellsFrom Done) (sym x.0) tt
starts-own _ call a a' told x = subst (TellsFrom Done) (sym x.0) (λ but is. tt)

pub start-tells-own : (call : SessionCall) (a a' : State) (told : Reply) → Starts call a told a' → TellsFrom Done told
start-tells-own call a a' told x = starts-own a.stage call a a' told x

-- what is told whatever was kept
pub tells-always : (kept : Answer (List ℕ)) (told : Reply) → TellsFrom Done told → TellsFrom kept told
tells-always kept told own = tells-then kept Done told (λ but is. tt) own

-- ---- a call that is kept out

pub keeps-out : (e : Engine) (session : ℕ) (a b : State) (leaf : ℕ) (refusal : Refusal) → slice_get e.sessions session ≡ Some a → next_of a ≡ next.Fill leaf → b ≡ kept_out refusal a → KeepsOut session refusal e (with_session e session b)
keeps-out e session a b leaf refusal at on made = record {
  refused = answer-is (with_session e session b) session b (set-at e.sessions session a b at) ∙ is;
  others = λ other apart. others-set e.sessions session b other apart;
} where
  is : b.answer ≡ answers.Refused refusal
  is = ap (λ (x : State). x.answer) made ∙ ap (λ (g : Stage). (kept_out_at g refusal a).answer) (filling a.stage a leaf on).stage_is
