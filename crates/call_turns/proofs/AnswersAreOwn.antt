-- Each event of a call keeps and tells an answer of the call's own.
use Rattle.std.proofs.Common.{ℕ, zero, suc, Bool, true, false, List, length, inl, inr}
use Rattle.std.specs.Prelude.{◌==◌, Option, Some, None, option_map, nat_lt, Result, Ok, Err, if◌then◌else◌}
use Rattle.stamp.specs.declared.View.{View}
use Rattle.failure.specs.declared.Fault.{Fault}
use Rattle.limits.specs.declared.TheConstants.{NUMBER_MAX}
use Rattle.wt_code.specs.declared.answers.Answer.{Answer}
use Rattle.wt_code.specs.declared.answers.Answer.TheVariants as answers
use Rattle.wt_code.specs.declared.refusals.Refusal.{Refusal}
use Rattle.wt_code.specs.declared.refusals.Refusal.TheVariants as refusal
use Rattle.wt_code.specs.declared.refusals.Invalid.{Invalid}
use Rattle.wt_code.specs.declared.refusals.Limit.TheVariants as limit
use Rattle.kv_model.specs.Machine.{of_some}
use Rattle.kv_model.specs.Refusals.{begin_rules, commit_rules, first_of, prepare_rules, resolve_rules}
use Rattle.ts_rules.specs.Rules.{answer_by}
use Rattle.tree_dir.specs.Leaves.{leaf_named}
use Rattle.wt_calls.specs.declared.SessionCall.{SessionCall}
use Rattle.wt_calls.specs.declared.SessionCall.TheVariants as asked
use Rattle.txn_table.specs.declared.phase.Phase.{Phase}
use Rattle.txn_table.specs.declared.phase.Phase.TheVariants as phase
use Rattle.txn_table.specs.Tabled.{drawn}
use Rattle.call_steps.specs.declared.frame.FramePiece.{FramePiece}
use Rattle.call_steps.specs.declared.hub.Hub.{Hub}
use Rattle.call_steps.specs.declared.reply.Reply.{Reply}
use Rattle.call_steps.specs.declared.reply.Reply.TheVariants as reply
use Rattle.call_steps.specs.declared.stage.CommitStamps.{CommitStamps}
use Rattle.call_steps.specs.declared.stage.KeyCall.{KeyCall}
use Rattle.call_steps.specs.declared.stage.Stage.{Stage}
use Rattle.call_steps.specs.declared.stage.Stage.TheVariants as stage
use Rattle.call_steps.specs.declared.stage.Target.{Target}
use Rattle.call_steps.specs.declared.stage.Wanted.{Wanted}
use Rattle.call_steps.specs.FrameEvents.{FrameMadeAt}
use Rattle.call_steps.specs.HubEvents.{Made, begin_made, begins_by, begins_in, beside, decide_made, decides_in, decides_prepared, decides_running, done, done_in, done_made, draws, fill_made, fills_to, find_made, finds, finds_at, finds_drawn, history_answer, history_made, hub_made, hub_made_at, item_checks, leaves_with, pass_made, passes_to, prepares_by, refuses_as, release_made, resolve_made, resolves_in, while_up, with_txns}
use Rattle.call_steps.specs.Stages.{cursor_in}
use Rattle.call_steps.specs.Starts.{StartsAt, StartsIn}
use Rattle.call_steps.specs.State.{State, answered, at_stage, clears, finished, first_pinned, leaving_in, moves, refuses, without_answer}
use Rattle.call_steps.specs.Tables.{next_for, stage_for, stage_of}
use Rattle.call_steps.specs.Words.{ends, kept_out_at, landed, loaded_at, reset, stored_at, unless_running, unpinned_in}
use Rattle.call_turns.specs.Answers.{FrameTells, HoldsOwn, HubTells, IsOwn, IsOwnAnswer, KeptTells, LoadTells, StartTells, StoreTells, TellsOwn}
use Rattle.call_turns.proofs.Looked.{Looked, look-made}
use Rattle.call_turns.proofs.Pins.{finished_by}

-- any refusal may be kept from before
module _ (but : Refusal) where
  -- ---- an answer, and the end of a transaction

  answered-own : (call : KeyCall) (target : Target) (answer : Answer (List ℕ)) (a : State) → IsOwnAnswer but answer → HoldsOwn but (answered call target answer a)
  answered-own call target answer a is = by-cursor (cursor_in call) where
    by-answer : (cursor : ℕ) (answer : Answer (List ℕ)) → IsOwnAnswer but answer → HoldsOwn but (moves cursor call target answer a)
    by-answer cursor (answers.Refused refusal.NotFound) own = own
    by-answer cursor answer own = own

    by-cursor : (o : Option ℕ) → HoldsOwn but (of_some (clears call target answer a) (λ cursor. moves cursor call target answer a) o)
    by-cursor None = is
    by-cursor (Some cursor) = by-answer cursor answer is

  finished-own : (answer : Answer (List ℕ)) (a : State) → IsOwnAnswer but answer → HoldsOwn but a → TellsOwn but (finished answer a).0 × HoldsOwn but (finished answer a).1
  finished-own answer a is own = by (first_pinned a.cursors) where
    by : (o : Option ℕ) → TellsOwn but (finished_by o answer a).0 × HoldsOwn but (finished_by o answer a).1
    by None = (is, own)
    by (Some cursor) = (tt, is)

  -- ---- the hub

  -- what an event on the hub tells, and what the session keeps after it
  abbrev AreOwn : Made → Type 0
  AreOwn made = TellsOwn but made.0 × HoldsOwn but made.1.1

  module _ (h : Hub) (session : ℕ) (a : State) (own : HoldsOwn but a) where
    while-up : (go : Made) → AreOwn go → AreOwn (while_up h a go)
    while-up go is = by h.fault where
      by : (o : Option Fault) → AreOwn (of_some go (λ fault. beside h (refuses (refusal.Panic fault) a)) o)
      by None = is
      by (Some fault) = (tt, own)

    unless : (go : Made) (o : Option Invalid) → AreOwn go → AreOwn (of_some go (λ reason. refuses_as reason h a) o)
    unless go None is = is
    unless go (Some reason) is = (tt, own)

    begins : (read : Option ℕ) → AreOwn (begin_made h session a read)
    begins read = while-up (begins_in a.phase h session a read) (by-phase a.phase) where
      by-rules : (o : Result (Unit {0}) Invalid) → AreOwn (begins_by o h session a read)
      by-rules (Ok u) = (tt, own)
      by-rules (Err reason) = (tt, own)

      by-phase : (p : Phase) → AreOwn (begins_in p h session a read)
      by-phase phase.Idle = by-rules (answer_by (begin_rules h.stamps.oldest read))
      by-phase _ = (tt, own)

    found : (call : KeyCall) → AreOwn (find_made h session a call)
    found call = while-up (of_some (finds h session a call) (λ reason. refuses_as reason h a) (unless_running a.phase)) (unless (finds h session a call) (unless_running a.phase)
        (unless (finds_at h session a call (stage_of h.tables h.dir.leaves call a)) (first_of (item_checks a)) (by-stage (stage_of h.tables h.dir.leaves call a)))) where
          by-id : (full : Bool) (to : Stage) → AreOwn (if full then beside h (refuses (refusal.Limit limit.Ids) a) else with_txns h (drawn h.txns session) (reply.More, at_stage to a))
          by-id true to = (tt, own)
          by-id false to = (tt, own)

          by-draw : (first : Bool) (to : Stage) → AreOwn (if first then finds_drawn h session a to else beside h (reply.More, at_stage to a))
          by-draw true to = by-id (nat_lt NUMBER_MAX h.txns.next) to
          by-draw false to = (tt, own)

          by-stage : (o : Option Stage) → AreOwn (finds_at h session a call o)
          by-stage None = (tt, own)
          by-stage (Some to) = by-draw (draws call h session) to

    filled : (call : KeyCall) (wanted : Wanted) → AreOwn (fill_made h a call wanted)
    filled call wanted = by (option_map (stage_for call) (leaf_named wanted.leaf h.dir.leaves)) where
      by : (o : Option Stage) → AreOwn (beside h (reply.More, fills_to o call a))
      by None = (tt, own)
      by (Some to) = (tt, own)

    passed : (call : KeyCall) (target : Target) → AreOwn (pass_made h a call target)
    passed call target = by (option_map (stage_for call) (next_for call target.leaf h.dir.leaves)) where
      by : (o : Option Stage) → AreOwn (beside h (reply.More, passes_to o call target a))
      by None = (tt, answered-own call target (answers.Refused refusal.NotFound) a tt)
      by (Some to) = (tt, own)

    told-own : (o : Option Fault) → IsOwnAnswer but (history_answer o)
    told-own None = tt
    told-own (Some fault) = tt

    read-on : (call : KeyCall) (target : Target) → AreOwn (history_made h a call target)
    read-on call target = (tt, answered-own call target (history_answer h.fault) a (told-own h.fault))

    prepared : (stamp : ℕ) → AreOwn (release_made h session a stamp)
    prepared stamp = while-up (of_some (prepares_by (answer_by (prepare_rules h.stamps.stable stamp)) h session a stamp) (λ reason. refuses_as reason h a) (unless_running a.phase))
        (unless (prepares_by (answer_by (prepare_rules h.stamps.stable stamp)) h session a stamp) (unless_running a.phase) (by-rules (answer_by (prepare_rules h.stamps.stable stamp)))) where
          by-rules : (o : Result (Unit {0}) Invalid) → AreOwn (prepares_by o h session a stamp)
          by-rules (Ok u) = (tt, own)
          by-rules (Err reason) = (tt, own)

    -- the answer that was kept is told
    settles : AreOwn (done h session a)
    settles = finished-own a.answer (without_answer a) own tt

    finishes : AreOwn (done_made h session a)
    finishes = while-up (done_in a.phase h session a) (by-phase a.phase) where
      by-phase : (p : Phase) → AreOwn (done_in p h session a)
      by-phase phase.Idle = (tt, own)
      by-phase (phase.Prepared at) = (tt, own)
      by-phase _ = settles

    left : (keys : ℕ) (answer : Answer (List ℕ)) → IsOwnAnswer but answer → AreOwn (leaves_with keys answer h session a)
    left zero answer is = finished-own answer a is own
    left (suc n) answer is = (tt, is)

    runs-on : (o : Result (Unit {0}) Invalid) → AreOwn (decides_running o h session a)
    runs-on (Ok u) = finished-own answers.Done a tt own
    runs-on (Err reason) = left (length a.written) (answers.Refused (refusal.Invalid reason)) tt

    resolves-on : (stamps : CommitStamps) (o : Result (Unit {0}) Invalid) → AreOwn (decides_prepared o h session a stamps)
    resolves-on stamps (Ok u) = (tt, tt)
    resolves-on stamps (Err reason) = (tt, own)

    decided : (stamps : CommitStamps) → AreOwn (decide_made h session a stamps)
    decided stamps = while-up (decides_in a.phase h session a stamps) (by-phase a.phase) where
      by-phase : (p : Phase) → AreOwn (decides_in p h session a stamps)
      by-phase phase.Idle = (tt, own)
      by-phase phase.Running = runs-on (answer_by (commit_rules h.stamps.oldest h.stamps.stable stamps.commit stamps.durable stamps.prev))
      by-phase phase.Failed = (tt, own)
      by-phase (phase.Prepared at) = resolves-on stamps (answer_by (resolve_rules h.stamps.oldest h.stamps.stable at stamps.commit stamps.durable stamps.prev))
      by-phase phase.Resolving = settles
      by-phase phase.Leaving = settles

    resolved : AreOwn (resolve_made h session a)
    resolved = while-up (resolves_in a.phase h session a) (by-phase a.phase) where
      by-phase : (p : Phase) → AreOwn (resolves_in p h session a)
      by-phase phase.Idle = (tt, own)
      by-phase (phase.Prepared at) = (tt, tt)
      by-phase phase.Running = left (length a.written) answers.Done tt
      by-phase phase.Failed = left (length a.written) answers.Done tt
      by-phase phase.Resolving = settles
      by-phase phase.Leaving = settles

    tells : AreOwn (hub_made h session a)
    tells = by a.stage where
      by : (g : Stage) → AreOwn (hub_made_at g h session a)
      by (stage.Begin read) = begins read
      by (stage.Find call) = found call
      by (stage.Fill call wanted) = filled call wanted
      by (stage.Pass call target) = passed call target
      by (stage.History call target) = read-on call target
      by (stage.Release stamp) = prepared stamp
      by (stage.Decide stamps) = decided stamps
      by stage.Resolve = resolved
      by stage.Done = finishes
      by _ = (tt, own)

  -- ---- frames

  looked-own : (call : KeyCall) (target : Target) (a a' : State) → HoldsOwn but a → Looked but call target a a' → HoldsOwn but a'
  looked-own call target a a' own x = elim x [
    | inl tells ↦ rw tells.is (answered-own call target tells.answer tells.before tells.own)
    | inr (inl older) ↦ rw older own
    | inr (inr (inl none)) ↦ rw none own
    | inr (inr (inr wrote)) ↦ wrote.own
  ]

  leaving-own : (p : Phase) (a : State) → HoldsOwn but a → HoldsOwn but (leaving_in p a)
  leaving-own phase.Running a own = tt
  leaving-own phase.Failed a own = tt
  leaving-own _ a own = own

  framed-own : (g : Stage) (view : View) (p p' : FramePiece) (a a' : State) → FrameMadeAt g view p a p' a' → HoldsOwn but a → HoldsOwn but a'
  framed-own (stage.Look call target) view p p' a a' x own = looked-own call target a a' own (look-made but p.frame call view target p p' a a' x)
  framed-own (stage.Mark stamp left) view p p' a a' x own = rw x.1 own
  framed-own (stage.Order stamps left) view p p' a a' x own = rw x.1 own
  framed-own (stage.Stamp stamps left) view p p' a a' x own = rw x.1 own
  framed-own (stage.Undo left) view p p' a a' x own = rw x.1 (leaving-own a.phase a own)
  framed-own _ view p p' a a' x own = rw x.1 own

  -- ---- words

  loaded-own : (g : Stage) (seen : ℕ) (a : State) → HoldsOwn but a → HoldsOwn but (loaded_at g seen a)
  loaded-own (stage.Validate call target) seen a own = by (seen == target.word) where
    by : (same : Bool) → HoldsOwn but (if same then at_stage (stage.Look call target) a else clears call target (answers.Refused (refusal.Again seen)) a)
    by true = own
    by false = tt
  loaded-own _ seen a own = own

  landed-own : (cursor : ℕ) (target : Target) (answer : Answer (List ℕ)) (a : State) → HoldsOwn but a → HoldsOwn but (landed cursor target answer a)
  landed-own cursor target (answers.Refused refusal.NotFound) a own = own
  landed-own cursor target answer a own = own

  stored-own : (g : Stage) (a : State) → HoldsOwn but a → TellsOwn but (stored_at g a).0 × HoldsOwn but (stored_at g a).1
  stored-own (stage.Clear call target) a own = (by (cursor_in call), tt) where
    by : (o : Option ℕ) → HoldsOwn but (of_some a (λ cursor. landed cursor target a.answer a) o)
    by None = own
    by (Some cursor) = landed-own cursor target a.answer a own
  stored-own (stage.Reset cursor) a own = by (unless_running a.phase) where
    by : (o : Option Invalid) → (let made : Reply × State = of_some (reset cursor a) (λ reason. refuses (refusal.Invalid reason) a) o in TellsOwn but made.0 × HoldsOwn but made.1)
    by None = (tt, own)
    by (Some reason) = (tt, own)
  stored-own (stage.Unpin cursor) a own = by (first_pinned (unpinned_in cursor a).cursors) where
    by : (o : Option ℕ) → (let made : Reply × State = of_some (ends (unpinned_in cursor a)) (λ i. (reply.More, at_stage (stage.Unpin i) (unpinned_in cursor a))) o in TellsOwn but made.0 × HoldsOwn but made.1)
    by None = (own, tt)
    by (Some i) = (tt, own)
  stored-own _ a own = (tt, own)

  kept-own : (g : Stage) (a : State) (r : Refusal) → IsOwn but r → HoldsOwn but a → HoldsOwn but (kept_out_at g r a)
  kept-own (stage.Fill call wanted) a r is own = is
  kept-own _ a r is own = own

  -- ---- starts

  started-own : (call : SessionCall) (a a' : State) → StartsAt call a a' → HoldsOwn but a → HoldsOwn but a'
  started-own (asked.Begin read) a a' x own = rw x own
  started-own (asked.Get table key) a a' x own = rw x own
  started-own (asked.Put table key value demand) a a' x own = rw x own
  started-own (asked.Remove table key) a a' x own = rw x own
  started-own (asked.Seek cursor table key) a a' x own = rw x own
  started-own (asked.Step cursor table way) a a' x own = rw x own
  started-own (asked.Reset cursor) a a' x own = rw x own
  started-own (asked.Prepare stamp) a a' x own = rw x.state own
  started-own (asked.Commit commit durable) a a' x own = rw x.state own
  started-own asked.Rollback a a' x own = rw x.state own

  starts-own : (g : Stage) (call : SessionCall) (a a' : State) (told : Reply) → StartsIn g call a told a' → HoldsOwn but a → TellsOwn but told × HoldsOwn but a'
  starts-own stage.Rest call a a' told x own = (rw x.0 tt, started-own call a a' x.1 own)
  starts-own _ call a a' told x own = (rw x.0 tt, rw x.1 own)

-- ---- the laws

pub hub-tells : HubTells
hub-tells but h session a own = tells but h session a own

pub frame-tells : FrameTells
frame-tells but view p p' a a' made own = framed-own but a.stage view p p' a a' made own

pub load-tells : LoadTells
load-tells but seen a own = loaded-own but a.stage seen a own

pub store-tells : StoreTells
store-tells but a own = stored-own but a.stage a own

pub kept-tells : KeptTells
kept-tells but a r is own = kept-own but a.stage a r is own

pub start-tells : StartTells
start-tells but call a a' told x own = starts-own but a.stage call a a' told x own
