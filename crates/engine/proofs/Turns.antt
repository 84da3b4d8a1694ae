-- Each step of a session's call leaves fewer of them.
use Rattle.std.proofs.Common.{◌≡◌, ◌<◌, ℕ, refl, ap, sym, ◌∙◌, List, subst, arith}
use Rattle.std.specs.Prelude.{Some, slice_get, slice_set}
use Rattle.std.proofs.lemmas.List.{get_or-set_same, length-set}
use Rattle.std.proofs.lemmas.Option.{slice_get_within, slice_get-get_or}
use Rattle.stamp.specs.declared.View.{View}
use Rattle.wt_code.specs.declared.answers.Answer.{Answer}
use Rattle.wt_code.specs.declared.refusals.Refusal.{Refusal}
use Rattle.kv_model.specs.Machine.{of_some}
use Rattle.tree_dir.specs.Leaves.{Directory, IsDirectory}
use Rattle.call_steps.specs.declared.frame.FramePiece.{FramePiece}
use Rattle.call_steps.specs.declared.hub.Hub.{Hub}
use Rattle.call_steps.specs.declared.next.Next.TheVariants as next
use Rattle.call_steps.specs.declared.reply.Reply.{Reply}
use Rattle.call_steps.specs.declared.reply.Reply.TheVariants as reply
use Rattle.call_steps.specs.HubEvents.{Made, hub_made}
use Rattle.call_steps.specs.State.{State}
use Rattle.call_steps.specs.Words.{kept_out, loaded, next_of, stored}
use Rattle.call_turns.specs.Turns.{FrameLowers, HubKeeps, HubLowers, IsFill, IsHubNext, KeepOutLowers, LoadLowers, StoreLowers, turns}
use Rattle.engine_world.specs.Laws.{with_hub, with_session}
use Rattle.engine_world.specs.Stands.{Engine}
use Rattle.engine.specs.Events.{IsFrameEvent}
use Rattle.engine.specs.Goings.{LeavesFewer}
use Rattle.engine.specs.Waits.{turns_in}
use Rattle.engine.proofs.Waited.{filling}

pub set-at : (sessions : List State) (session : ℕ) (a b : State) → slice_get sessions session ≡ Some a → slice_get (slice_set sessions session b) session ≡ Some b
set-at sessions session a b at = let inside = slice_get_within sessions session a at in let long = length-set sessions session b in
    slice_get-get_or (slice_set sessions session b) session b (omega (arith, inside, long)) ∙ ap (λ (x : State). Some x) (get_or-set_same sessions session b b inside)

turns-are : (e : Engine) (session : ℕ) (a : State) → slice_get e.sessions session ≡ Some a → turns_in e session ≡ turns e.hub.dir.leaves a
turns-are e session a at = ap (of_some 0 (λ (x : State). turns e.hub.dir.leaves x)) at

fewer-at : (old new : Engine) (session : ℕ) (a b : State) → slice_get old.sessions session ≡ Some a → new.sessions ≡ slice_set old.sessions session b → new.hub.dir ≡ old.hub.dir → turns old.hub.dir.leaves b < turns old.hub.dir.leaves a
    → turns_in new session < turns_in old session
fewer-at old new session a b at sessions dir less = subst (λ (n : ℕ). turns_in new session < n) (sym (turns-are old session a at)) (subst (λ (n : ℕ). n < turns old.hub.dir.leaves a) (sym new-is) less) where
  new-is : turns_in new session ≡ turns old.hub.dir.leaves b
  new-is = turns-are new session b (ap (λ (xs : List State). slice_get xs session) sessions ∙ set-at old.sessions session a b at) ∙ ap (λ (d : Directory). turns d.leaves b) dir

pub load-fewer : LoadLowers → (e : Engine) (session frame seen : ℕ) (a a' : State) (told : Reply) → slice_get e.sessions session ≡ Some a → next_of a ≡ next.Load frame → a' ≡ loaded seen a → LeavesFewer e (with_session e session a') session told
load-fewer law e session frame seen a a' told at on made none = fewer-at e (with_session e session a') session a a' at refl refl (subst (λ (x : State). turns e.hub.dir.leaves x < turns e.hub.dir.leaves a) (sym made) (law e.hub.dir.leaves a frame seen on))

pub store-fewer : StoreLowers → (e : Engine) (session word value : ℕ) (a a' : State) (told : Reply) (hazards : List ℕ) → slice_get e.sessions session ≡ Some a → next_of a ≡ next.Store word value → (let made : Reply × State = (told, a') in made) ≡ stored a
    → LeavesFewer e (with_session (record e { hazards = hazards }) session a') session told
store-fewer law e session word value a a' told hazards at on made =
    subst (λ (m : Reply × State). LeavesFewer e (with_session (record e { hazards = hazards }) session m.1) session m.0) (sym made)
    (λ none. fewer-at e (with_session (record e { hazards = hazards }) session (stored a).1) session a (stored a).1 at refl refl (law e.hub.dir.leaves a word value on none))

pub hub-fewer : HubLowers → HubKeeps → (e : Engine) (session : ℕ) (a a' : State) (hub : Hub) (told : Reply) → slice_get e.sessions session ≡ Some a → IsDirectory e.hub.dir → IsHubNext e.hub a → (let made : Made = (told, (hub, a')) in made) ≡ hub_made e.hub session a
    → LeavesFewer e (with_session (with_hub e hub) session a') session told
hub-fewer law keeps e session a a' hub told at is on made =
    subst (λ (m : Made). LeavesFewer e (with_session (with_hub e m.1.0) session m.1.1) session m.0) (sym made)
    (λ none. fewer-at e (with_session (with_hub e (hub_made e.hub session a).1.0) session (hub_made e.hub session a).1.1) session a (hub_made e.hub session a).1.1 at refl (keeps e.hub session a).dir (law e.hub session a is on none))

pub frame-fewer : FrameLowers → (e : Engine) (session frame : ℕ) (view : View) (pieces : List FramePiece) (sessions : List State) (told : Reply) → IsFrameEvent view session frame e.pieces e.sessions pieces sessions
    → ((a : State) → slice_get e.sessions session ≡ Some a → next_of a ≡ next.Frame frame) → LeavesFewer e (record e { pieces = pieces; sessions = sessions }) session told
frame-fewer law e session frame view pieces sessions told v on none =
    fewer-at e (record e { pieces = pieces; sessions = sessions }) session v.a v.a' v.session_is v.sessions_are refl (law view e.hub.dir.leaves v.p v.p' v.a v.a' frame (on v.a v.session_is) v.made)

-- an answer ends the call
pub answer-fewer : (old new : Engine) (session : ℕ) (answer : Answer (List ℕ)) → LeavesFewer old new session (reply.Answer answer)
answer-fewer old new session answer none = absurd (none answer refl)

-- a call that is kept from its leaf
pub keep-out-fewer : KeepOutLowers → (e : Engine) (session leaf : ℕ) (a a' : State) (r : Refusal) → slice_get e.sessions session ≡ Some a → next_of a ≡ next.Fill leaf → a' ≡ kept_out r a → turns_in (with_session e session a') session < turns_in e session
keep-out-fewer law e session leaf a a' r at on made = fewer-at e (with_session e session a') session a a' at refl refl
    (subst (λ (x : State). turns e.hub.dir.leaves x < turns e.hub.dir.leaves a) (sym made) (law e.hub.dir.leaves a r (subst IsFill (sym (filling a.stage a leaf on).stage_is) tt)))
