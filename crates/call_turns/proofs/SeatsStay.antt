-- Each event of a call keeps the places of the sessions.
use Rattle.std.proofs.Common.{◌≡◌, ℕ, refl, ap, sym, ◌∙◌, Bool, true, false, List, inl, inr, arith}
use Rattle.std.specs.Prelude.{◌==◌, Option, Some, None, if◌then◌else◌, slice_get, slice_set}
use Rattle.stamp.specs.declared.View.{View}
use Rattle.wt_code.specs.declared.answers.Answer.{Answer}
use Rattle.wt_code.specs.declared.answers.Answer.TheVariants as answers
use Rattle.wt_code.specs.declared.refusals.Refusal.{Refusal}
use Rattle.wt_code.specs.declared.refusals.Refusal.TheVariants as refusal
use Rattle.wt_code.specs.declared.refusals.Invalid.{Invalid}
use Rattle.kv_model.specs.Machine.{of_some}
use Rattle.wt_calls.specs.declared.SessionCall.{SessionCall}
use Rattle.wt_calls.specs.declared.SessionCall.TheVariants as asked
use Rattle.txn_table.specs.declared.phase.Phase.{Phase}
use Rattle.txn_table.specs.declared.phase.Phase.TheVariants as phase
use Rattle.call_steps.specs.declared.frame.FramePiece.{FramePiece}
use Rattle.call_steps.specs.declared.hub.Hub.{Hub}
use Rattle.call_steps.specs.declared.reply.Reply.{Reply}
use Rattle.call_steps.specs.declared.reply.Reply.TheVariants as reply
use Rattle.call_steps.specs.declared.stage.KeyCall.{KeyCall}
use Rattle.call_steps.specs.declared.stage.Stage.{Stage}
use Rattle.call_steps.specs.declared.stage.Stage.TheVariants as stage
use Rattle.call_steps.specs.declared.stage.Target.{Target}
use Rattle.call_steps.specs.FrameEvents.{FrameMadeAt}
use Rattle.call_steps.specs.HubEvents.{IsSeated, hub_made, known_phase}
use Rattle.call_steps.specs.Starts.{StartsAt, StartsIn}
use Rattle.call_steps.specs.Stages.{cursor_in}
use Rattle.call_steps.specs.State.{State, at_stage, clears, first_pinned, leaving_in, refuses}
use Rattle.call_steps.specs.Words.{ends, kept_out, kept_out_at, landed, loaded, loaded_at, reset, stored, stored_at, unless_running, unpinned_in}
use Rattle.call_turns.specs.Seats.{AreSeated, FrameSeats, HubSeats, IsAtLeaf, KeepOutSeats, LoadSeats, StartSeats, StoreSeats}
use Rattle.call_turns.proofs.HubPlaces.{answered-phase, places}
use Rattle.call_turns.proofs.OneSession.{one-set}
use Rattle.call_turns.proofs.Looked.{Looked, look-made}

pub hub-seats : HubSeats
hub-seats h session a sessions all at = one-set (IsSeated h) (IsSeated (hub_made h session a).1.0) sessions session a (hub_made h session a).1.1 all at
    (λ r c other seat. record { opened = (let many = (places h session a).kept.places in let before = seat.opened in omega (arith, many, before)); phase = (places h session a).others r other ∙ seat.phase })
    ((places h session a).mine (all session a at))

-- the table stays, and knows the phase that the session is in now
known-seats : (h : Hub) (session : ℕ) (a b : State) (sessions : List State) → AreSeated h sessions → slice_get sessions session ≡ Some a → known_phase b.phase ≡ known_phase a.phase → AreSeated h (slice_set sessions session b)
known-seats h session a b sessions all at same = one-set (IsSeated h) (IsSeated h) sessions session a b all at (λ r c other seat. seat)
    (let seat = all session a at in record { opened = seat.opened; phase = seat.phase ∙ sym same })

-- ---- words

loaded-phase : (g : Stage) (seen : ℕ) (a : State) → (loaded_at g seen a).phase ≡ a.phase
loaded-phase (stage.Validate call target) seen a = by (seen == target.word) where
  by : (same : Bool) → (if same then at_stage (stage.Look call target) a else clears call target (answers.Refused (refusal.Again seen)) a).phase ≡ a.phase
  by true = refl
  by false = refl
loaded-phase _ seen a = refl

pub load-seats : LoadSeats
load-seats h session seen a sessions all at = known-seats h session a (loaded seen a) sessions all at (ap known_phase (loaded-phase a.stage seen a))

landed-phase : (cursor : ℕ) (target : Target) (answer : Answer (List ℕ)) (a : State) → (landed cursor target answer a).phase ≡ a.phase
landed-phase cursor target (answers.Refused refusal.NotFound) a = refl
landed-phase cursor target answer a = refl

stored-phase : (g : Stage) (a : State) → (stored_at g a).1.phase ≡ a.phase
stored-phase (stage.Clear call target) a = by (cursor_in call) where
  by : (o : Option ℕ) → (of_some a (λ cursor. landed cursor target a.answer a) o).phase ≡ a.phase
  by None = refl
  by (Some cursor) = landed-phase cursor target a.answer a
stored-phase (stage.Reset cursor) a = by (unless_running a.phase) where
  by : (o : Option Invalid) → (let made : Reply × State = of_some (reset cursor a) (λ reason. refuses (refusal.Invalid reason) a) o in made.1.phase) ≡ a.phase
  by None = refl
  by (Some reason) = refl
stored-phase (stage.Unpin cursor) a = by (first_pinned (unpinned_in cursor a).cursors) where
  by : (o : Option ℕ) → (let made : Reply × State = of_some (ends (unpinned_in cursor a)) (λ i. (reply.More, at_stage (stage.Unpin i) (unpinned_in cursor a))) o in made.1.phase) ≡ a.phase
  by None = refl
  by (Some i) = refl
stored-phase _ a = refl

pub store-seats : StoreSeats
store-seats h session a sessions all at = known-seats h session a (stored a).1 sessions all at (ap known_phase (stored-phase a.stage a))

kept-out-phase : (g : Stage) (r : Refusal) (a : State) → (kept_out_at g r a).phase ≡ a.phase
kept-out-phase (stage.Fill call wanted) r a = refl
kept-out-phase _ r a = refl

pub keep-out-seats : KeepOutSeats
keep-out-seats h session a r sessions all at = known-seats h session a (kept_out r a) sessions all at (ap known_phase (kept-out-phase a.stage r a))

-- ---- starts

started-phase : (call : SessionCall) (a a' : State) → StartsAt call a a' → a'.phase ≡ a.phase
started-phase (asked.Begin read) a a' x = rw x refl
started-phase (asked.Get table key) a a' x = rw x refl
started-phase (asked.Put table key value demand) a a' x = rw x refl
started-phase (asked.Remove table key) a a' x = rw x refl
started-phase (asked.Seek cursor table key) a a' x = rw x refl
started-phase (asked.Step cursor table way) a a' x = rw x refl
started-phase (asked.Reset cursor) a a' x = rw x refl
started-phase (asked.Prepare stamp) a a' x = rw x.state refl
started-phase (asked.Commit commit durable) a a' x = rw x.state refl
started-phase asked.Rollback a a' x = rw x.state refl

starts-phase : (g : Stage) (call : SessionCall) (a a' : State) (told : Reply) → StartsIn g call a told a' → a'.phase ≡ a.phase
starts-phase stage.Rest call a a' told x = started-phase call a a' x.1
starts-phase _ call a a' told x = rw x.1 refl

pub start-seats : StartSeats
start-seats h session call a a' told sessions all at x = known-seats h session a a' sessions all at (ap known_phase (starts-phase a.stage call a a' told x))

-- ---- frames

-- a conflict fails a transaction that runs
looked-phase : (call : KeyCall) (target : Target) (a a' : State) → a.phase ≡ phase.Running → Looked refusal.NoMemory call target a a' → known_phase a'.phase ≡ known_phase a.phase
looked-phase call target a a' running x = elim x [
  | inl tells ↦ ap known_phase (ap (λ (b : State). b.phase) tells.is ∙ (answered-phase call target tells.answer tells.before ∙ tells.phase))
  | inr (inl older) ↦ ap (λ (b : State). known_phase b.phase) older
  | inr (inr (inl none)) ↦ ap (λ (b : State). known_phase b.phase) none
  | inr (inr (inr wrote)) ↦ elim wrote.phase [
    | inl failed ↦ ap known_phase failed ∙ sym (ap known_phase running)
    | inr same ↦ ap known_phase same
  ]
]

-- the table learns of a rollback at its end
leaving-known : (p : Phase) (a : State) → a.phase ≡ p → known_phase (leaving_in p a).phase ≡ known_phase a.phase
leaving-known phase.Running a is = rw is refl
leaving-known phase.Failed a is = rw is refl
leaving-known _ a is = refl

framed-phase : (g : Stage) (view : View) (p p' : FramePiece) (a a' : State) → (IsAtLeaf g → a.phase ≡ phase.Running) → FrameMadeAt g view p a p' a' → known_phase a'.phase ≡ known_phase a.phase
framed-phase (stage.Look call target) view p p' a a' runs x = looked-phase call target a a' (runs tt) (look-made refusal.NoMemory p.frame call view target p p' a a' x)
framed-phase (stage.Mark stamp left) view p p' a a' runs x = rw x.1 refl
framed-phase (stage.Order stamps left) view p p' a a' runs x = rw x.1 refl
framed-phase (stage.Stamp stamps left) view p p' a a' runs x = rw x.1 refl
framed-phase (stage.Undo left) view p p' a a' runs x = rw x.1 (leaving-known a.phase a refl)
framed-phase _ view p p' a a' runs x = rw x.1 refl

pub frame-seats : FrameSeats
frame-seats h session view p p' a a' sessions all runs at made = known-seats h session a a' sessions all at (framed-phase a.stage view p p' a a' (runs session a at).runs made)
