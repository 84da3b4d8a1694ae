-- Each event of a call keeps that a transaction runs where its call is at a leaf.
use Rattle.std.proofs.Common.{◌≡◌, ℕ, refl, ap, sym, ◌∙◌, Bool, true, false, List, length, inl, inr, subst}
use Rattle.std.specs.Prelude.{◌==◌, Option, Some, None, if◌then◌else◌, slice_get, slice_set}
use Rattle.stamp.specs.declared.View.{View}
use Rattle.wt_code.specs.declared.answers.Answer.TheVariants as answers
use Rattle.wt_code.specs.declared.refusals.Refusal.{Refusal}
use Rattle.wt_code.specs.declared.refusals.Refusal.TheVariants as refusal
use Rattle.wt_code.specs.declared.refusals.Invalid.{Invalid}
use Rattle.kv_model.specs.Machine.{of_some}
use Rattle.wt_calls.specs.declared.SessionCall.{SessionCall}
use Rattle.wt_calls.specs.declared.SessionCall.TheVariants as asked
use Rattle.txn_table.specs.declared.phase.Phase.TheVariants as phase
use Rattle.call_steps.specs.declared.frame.FramePiece.{FramePiece}
use Rattle.call_steps.specs.declared.reply.Reply.{Reply}
use Rattle.call_steps.specs.declared.reply.Reply.TheVariants as reply
use Rattle.call_steps.specs.declared.stage.KeyCall.{KeyCall}
use Rattle.call_steps.specs.declared.stage.KeyCall.TheVariants as key_call
use Rattle.call_steps.specs.declared.stage.Stage.{Stage}
use Rattle.call_steps.specs.declared.stage.Stage.TheVariants as stage
use Rattle.call_steps.specs.declared.stage.Target.{Target}
use Rattle.call_steps.specs.FrameEvents.{FrameMadeAt, ordered, prev_in, starts_at, with_prev}
use Rattle.call_steps.specs.HubEvents.{hub_made}
use Rattle.call_steps.specs.Starts.{StartsAt, StartsIn, stamps_given}
use Rattle.call_steps.specs.Stages.{after_orders, after_stamps, first_mark, first_order, first_undo, marks, stamps_then, undoes}
use Rattle.call_steps.specs.State.{State, answered, at_stage, clears, first_pinned, refuses}
use Rattle.call_steps.specs.Words.{ends, kept_out, kept_out_at, loaded, loaded_at, reset, stored, stored_at, unless_running, unpinned_in}
use Rattle.call_turns.specs.Seats.{AllRun, FrameRuns, HubRuns, IsAtLeaf, KeepOutRuns, LoadRuns, RunsAtLeaf, StartRuns, StoreRuns}
use Rattle.call_turns.proofs.Away.{after-orders-away, after-stamps-away, answered-away, away, away-at, first-mark-away, first-order-away, first-undo-away, marks-away, orders-away, stamps-away, undoes-away}
use Rattle.call_turns.proofs.HubPlaces.{places}
use Rattle.call_turns.proofs.Looked.{Looked, look-made}
use Rattle.call_turns.proofs.OneSession.{one-set}

-- one session goes on, and the others stay
one-runs : (session : ℕ) (a b : State) (sessions : List State) → AllRun sessions → slice_get sessions session ≡ Some a → (RunsAtLeaf a → RunsAtLeaf b) → AllRun (slice_set sessions session b)
one-runs session a b sessions all at goes = one-set (λ r c. RunsAtLeaf c) (λ r c. RunsAtLeaf c) sessions session a b all at (λ r c other run. run) (goes (all session a at))

pub hub-runs : HubRuns
hub-runs h session a sessions all at = one-runs session a (hub_made h session a).1.1 sessions all at (places h session a).runs

-- ---- words

loads : (g : Stage) (seen : ℕ) (a : State) → a.stage ≡ g → RunsAtLeaf a → RunsAtLeaf (loaded_at g seen a)
loads (stage.Validate call target) seen a is before = by (seen == target.word) where
  by : (same : Bool) → RunsAtLeaf (if same then at_stage (stage.Look call target) a else clears call target (answers.Refused (refusal.Again seen)) a)
  by true = record { runs = λ on. before.runs (subst IsAtLeaf (sym is) tt) }
  by false = away (clears call target (answers.Refused (refusal.Again seen)) a) (λ on. on)
loads _ seen a is before = before

pub load-runs : LoadRuns
load-runs session seen a sessions all at = one-runs session a (loaded seen a) sessions all at (loads a.stage seen a refl)

stores : (g : Stage) (a : State) → a.stage ≡ g → RunsAtLeaf a → RunsAtLeaf (stored_at g a).1
stores (stage.Publish call target) a is before = record { runs = λ on. before.runs (subst IsAtLeaf (sym is) tt) }
stores (stage.ClearCursor call target) a is before = away (stored_at (stage.ClearCursor call target) a).1 (λ on. on)
stores (stage.Clear call target) a is before = away (stored_at (stage.Clear call target) a).1 (λ on. on)
stores (stage.Reset cursor) a is before = by (unless_running a.phase) where
  by : (o : Option Invalid) → (let made : Reply × State = of_some (reset cursor a) (λ reason. refuses (refusal.Invalid reason) a) o in RunsAtLeaf made.1)
  by None = away (reset cursor a).1 (λ on. on)
  by (Some reason) = away (refuses (refusal.Invalid reason) a).1 (λ on. on)
stores (stage.Unpin cursor) a is before = by (first_pinned (unpinned_in cursor a).cursors) where
  by : (o : Option ℕ) → (let made : Reply × State = of_some (ends (unpinned_in cursor a)) (λ i. (reply.More, at_stage (stage.Unpin i) (unpinned_in cursor a))) o in RunsAtLeaf made.1)
  by None = away (ends (unpinned_in cursor a)).1 (λ on. on)
  by (Some i) = away (at_stage (stage.Unpin i) (unpinned_in cursor a)) (λ on. on)
stores _ a is before = before

pub store-runs : StoreRuns
store-runs session a sessions all at = one-runs session a (stored a).1 sessions all at (stores a.stage a refl)

keeps-out : (g : Stage) (r : Refusal) (a : State) → RunsAtLeaf a → RunsAtLeaf (kept_out_at g r a)
keeps-out (stage.Fill call wanted) r a before = away (kept_out_at (stage.Fill call wanted) r a) (λ on. on)
keeps-out _ r a before = before

pub keep-out-runs : KeepOutRuns
keep-out-runs session a r sessions all at = one-runs session a (kept_out r a) sessions all at (keeps-out a.stage r a)

-- ---- starts

started : (call : SessionCall) (a a' : State) → StartsAt call a a' → RunsAtLeaf a'
started (asked.Begin read) a a' x = away-at a' (stage.Begin read) (rw x refl) (λ on. on)
started (asked.Get table key) a a' x = away-at a' (stage.Find key_call.Get) (rw x refl) (λ on. on)
started (asked.Put table key value demand) a a' x = away-at a' (stage.Find (key_call.Put demand)) (rw x refl) (λ on. on)
started (asked.Remove table key) a a' x = away-at a' (stage.Find key_call.Remove) (rw x refl) (λ on. on)
started (asked.Seek cursor table key) a a' x = away-at a' (stage.Find (key_call.Seek cursor)) (rw x refl) (λ on. on)
started (asked.Step cursor table way) a a' x = away-at a' (stage.Find (key_call.Step cursor way)) (rw x refl) (λ on. on)
started (asked.Reset cursor) a a' x = away-at a' (stage.Reset cursor) (rw x refl) (λ on. on)
started (asked.Prepare stamp) a a' x = away-at a' (first_mark a.phase stamp (length a.written)) (rw x.state refl) (first-mark-away a.phase stamp (length a.written))
started (asked.Commit commit durable) a a' x = away-at a' (first_order a.phase (stamps_given commit durable) (length a.written)) (rw x.state refl) (first-order-away a.phase (stamps_given commit durable) (length a.written))
started asked.Rollback a a' x = away-at a' (first_undo a.phase (length a.written)) (rw x.state refl) (first-undo-away a.phase (length a.written))

starts : (g : Stage) (call : SessionCall) (a a' : State) (told : Reply) → StartsIn g call a told a' → RunsAtLeaf a → RunsAtLeaf a'
starts stage.Rest call a a' told x before = started call a a' x.1
starts _ call a a' told x before = subst RunsAtLeaf (sym x.1) before

pub start-runs : StartRuns
start-runs session call a a' told sessions all at x = one-runs session a a' sessions all at (starts a.stage call a a' told x)

-- ---- frames

-- the next leaf is one of a transaction that runs
looks : (call : KeyCall) (target : Target) (a a' : State) → a.phase ≡ phase.Running → Looked refusal.NoMemory call target a a' → RunsAtLeaf a'
looks call target a a' running x = elim x [
  | inl tells ↦ away-at a' (answered call target tells.answer tells.before).stage (ap (λ (b : State). b.stage) tells.is) (answered-away call target tells.answer tells.before)
  | inr (inl older) ↦ away-at a' (stage.History call target) (ap (λ (b : State). b.stage) older) (λ on. on)
  | inr (inr (inl none)) ↦ record { runs = λ on. ap (λ (b : State). b.phase) none ∙ running }
  | inr (inr (inr wrote)) ↦ away-at a' (stage.Clear call target) wrote.stage (λ on. on)
]

framed : (g : Stage) (view : View) (p p' : FramePiece) (a a' : State) → a.stage ≡ g → FrameMadeAt g view p a p' a' → RunsAtLeaf a → RunsAtLeaf a'
framed (stage.Look call target) view p p' a a' is x before = looks call target a a' (before.runs (subst IsAtLeaf (sym is) tt)) (look-made refusal.NoMemory p.frame call view target p p' a a' x)
framed (stage.Mark stamp left) view p p' a a' is x before = away-at a' (marks stamp (starts_at a left)) (rw x.1 refl) (marks-away stamp (starts_at a left))
framed (stage.Order stamps left) view p p' a a' is x before = away-at a' (ordered (with_prev stamps (prev_in p.frame a left stamps.prev)) (starts_at a left) a).stage (rw x.1 refl)
    (orders-away (with_prev stamps (prev_in p.frame a left stamps.prev)) (starts_at a left) (after_orders a.phase (with_prev stamps (prev_in p.frame a left stamps.prev)) (length a.written))
    (after-orders-away a.phase (with_prev stamps (prev_in p.frame a left stamps.prev)) (length a.written)))
framed (stage.Stamp stamps left) view p p' a a' is x before = away-at a' (stamps_then stamps (starts_at a left) (after_stamps a.phase stamps)) (rw x.1 refl)
    (stamps-away stamps (starts_at a left) (after_stamps a.phase stamps) (after-stamps-away a.phase stamps))
framed (stage.Undo left) view p p' a a' is x before = away-at a' (undoes (starts_at a left)) (rw x.1 refl) (undoes-away (starts_at a left))
framed _ view p p' a a' is x before = subst RunsAtLeaf (sym x.1) before

pub frame-runs : FrameRuns
frame-runs session view p p' a a' sessions all at made = one-runs session a a' sessions all at (framed a.stage view p p' a a' refl made)
