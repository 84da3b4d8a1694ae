-- What an event on the hub makes of the places of the sessions.
use Rattle.std.proofs.Common.{◌≡◌, ◌≢◌, ◌<◌, ℕ, zero, suc, refl, ap, sym, ◌∙◌, Bool, true, false, List, [], length, inl, inr, subst, arith}
use Rattle.std.specs.Prelude.{Option, Some, None, option_map, nat_lt, Result, Ok, Err, if◌then◌else◌, slice_index_or, slice_set}
use Rattle.std.proofs.lemmas.Bool.{cases_Bool}
use Rattle.std.proofs.lemmas.List.{get_or-set_same, get_or-set_other, length-set}
use Rattle.failure.specs.declared.Fault.{Fault}
use Rattle.limits.specs.declared.TheConstants.{NUMBER_MAX}
use Rattle.wt_code.specs.declared.answers.Answer.{Answer}
use Rattle.wt_code.specs.declared.answers.Answer.TheVariants as answers
use Rattle.wt_code.specs.declared.refusals.Refusal.{Refusal}
use Rattle.wt_code.specs.declared.refusals.Refusal.TheVariants as refusal
use Rattle.wt_code.specs.declared.refusals.Invalid.{Invalid}
use Rattle.wt_code.specs.declared.refusals.Invalid.TheVariants as invalid
use Rattle.wt_code.specs.declared.refusals.Limit.TheVariants as limit
use Rattle.kv_model.specs.Machine.{of_some}
use Rattle.kv_model.specs.Refusals.{begin_rules, commit_rules, first_of, prepare_rules, resolve_rules, stamp_of}
use Rattle.ts_rules.specs.Rules.{answer_by}
use Rattle.snapshot.specs.Sight.{sight_at}
use Rattle.tree_dir.specs.Leaves.{leaf_named}
use Rattle.txn_table.specs.declared.phase.Phase.{Phase}
use Rattle.txn_table.specs.declared.phase.Phase.TheVariants as phase
use Rattle.txn_table.specs.SessionData.{SessionData, is_unreleased, opened}
use Rattle.txn_table.specs.Tabled.{Table, begun, drawn, ended, in_phase, phase_of, released_in, session_of}
use Rattle.call_steps.specs.declared.hub.Hub.{Hub}
use Rattle.call_steps.specs.declared.reply.Reply.{Reply}
use Rattle.call_steps.specs.declared.reply.Reply.TheVariants as reply
use Rattle.call_steps.specs.declared.stage.CommitStamps.{CommitStamps}
use Rattle.call_steps.specs.declared.stage.KeyCall.{KeyCall}
use Rattle.call_steps.specs.declared.stage.Stage.{Stage}
use Rattle.call_steps.specs.declared.stage.Stage.TheVariants as stage
use Rattle.call_steps.specs.declared.stage.Target.{Target}
use Rattle.call_steps.specs.declared.stage.Wanted.{Wanted}
use Rattle.call_steps.specs.HubEvents.{IsSeated, Made, begin_made, begins_by, begins_in, beside, decide_made, decides_in, decides_prepared, decides_running, done, done_in, done_made, draws, fill_made, fills_to, find_made, finds, finds_at, finds_drawn, history_answer, hub_made, hub_made_at, item_checks, known_phase, leaves_with, pass_made, passes_to, prepares_by, refuses_as, release_made, resolve_made, resolves_in, while_up, with_txns}
use Rattle.call_steps.specs.Stages.{cursor_in, stamps_then, undoes}
use Rattle.call_steps.specs.State.{State, answered, at_stage, clears, finished, first_pinned, leaves, moves, refuses, without_answer}
use Rattle.call_steps.specs.Tables.{next_for, stage_for, stage_of}
use Rattle.call_steps.specs.Words.{unless_running}
use Rattle.call_turns.specs.Seats.{IsAtLeaf, RunsAtLeaf}
use Rattle.call_turns.specs.Turns.{HubKeeps, IsKept}
use Rattle.call_turns.proofs.Away.{answered-away, away, finished-away, stamps-away, undoes-away}
use Rattle.call_turns.proofs.Pins.{finished_by}

-- the table has one session as it is now
record SetsSeat (t now : Table) (session : ℕ) (u : SessionData) : Type 0 where
  run : now.run ≡ t.run
  sessions : now.sessions ≡ slice_set t.sessions session u

seat-now : (t now : Table) (session : ℕ) (u : SessionData) → SetsSeat t now session u → session < length t.sessions → session_of now session ≡ u
seat-now t now session u s inside = ap (λ (l : List SessionData). slice_index_or l session (opened now.run)) s.sessions ∙ get_or-set_same t.sessions session u (opened now.run) inside

seats-opened : (t now : Table) (session : ℕ) (u : SessionData) → SetsSeat t now session u → length now.sessions ≡ length t.sessions
seats-opened t now session u s = ap length s.sessions ∙ length-set t.sessions session u

other-seats : (t now : Table) (session : ℕ) (u : SessionData) → SetsSeat t now session u → (r : ℕ) → r ≢ session → session_of now r ≡ session_of t r
other-seats t now session u s r other = ap (λ (l : List SessionData). slice_index_or l r (opened now.run)) s.sessions
    ∙ (get_or-set_other t.sessions session r u (opened now.run) other ∙ ap (λ run. slice_index_or t.sessions r (opened run)) s.run)

abbrev seat_in : Table → ℕ → Phase → SessionData
seat_in t session p = record (session_of t session) { phase = p }

ended-sets : (t : Table) (session : ℕ) → SetsSeat t (ended t session) session (seat_in t session phase.Idle)
ended-sets t session = elim (cases_Bool (is_unreleased (phase_of t session))) [
  | inl is ↦ record { run = rw is refl; sessions = rw is refl }
  | inr isnt ↦ record { run = rw isnt refl; sessions = rw isnt refl }
]

-- what an event on the hub makes of the places, that of its session and those of others, and of the session's call at a leaf
pub record Places (h : Hub) (session : ℕ) (a : State) (made : Made) : Type 0 where
  pub kept : IsKept h made.1.0
  pub others : (r : ℕ) → r ≢ session → phase_of made.1.0.txns r ≡ phase_of h.txns r
  pub mine : IsSeated h session a → IsSeated made.1.0 session made.1.1
  pub runs : RunsAtLeaf a → RunsAtLeaf made.1.1

-- ---- phases

finished-phase : (answer : Answer (List ℕ)) (a : State) → (finished answer a).1.phase ≡ phase.Idle
finished-phase answer a = by (first_pinned a.cursors) where
  by : (o : Option ℕ) → (finished_by o answer a).1.phase ≡ phase.Idle
  by None = refl
  by (Some cursor) = refl

pub answered-phase : (call : KeyCall) (target : Target) (answer : Answer (List ℕ)) (a : State) → (answered call target answer a).phase ≡ a.phase
answered-phase call target answer a = by-cursor (cursor_in call) where
  by-answer : (cursor : ℕ) (answer : Answer (List ℕ)) → (moves cursor call target answer a).phase ≡ a.phase
  by-answer cursor (answers.Refused refusal.NotFound) = refl
  by-answer cursor answer = refl

  by-cursor : (o : Option ℕ) → (of_some (clears call target answer a) (λ cursor. moves cursor call target answer a) o).phase ≡ a.phase
  by-cursor None = refl
  by-cursor (Some cursor) = by-answer cursor answer

-- ---- one event

module _ (h : Hub) (session : ℕ) (a : State) where
  -- the table stays, and knows the phase that the session is in now
  stays : (told : Reply) (b : State) → known_phase b.phase ≡ known_phase a.phase → (RunsAtLeaf a → RunsAtLeaf b) → Places h session a (beside h (told, b))
  stays told b same run = record {
    kept = record { dir = refl; tables = refl; places = refl; run = refl; fault = refl };
    others = λ r other. refl;
    mine = λ seat. record { opened = seat.opened; phase = seat.phase ∙ sym same };
    runs = run;
  }

  -- the session's place is as it is now
  sets : (told : Reply) (now : Table) (u : SessionData) (b : State) → SetsSeat h.txns now session u → (IsSeated h session a → u.phase ≡ known_phase b.phase) → RunsAtLeaf b → Places h session a (with_txns h now (told, b))
  sets told now u b s is run = record {
    kept = record { dir = refl; tables = refl; places = seats-opened h.txns now session u s; run = s.run; fault = refl };
    others = λ r other. ap (λ (x : SessionData). x.phase) (other-seats h.txns now session u s r other);
    mine = λ seat. record {
      opened = (let same = seats-opened h.txns now session u s in let before = seat.opened in omega (arith, same, before));
      phase = ap (λ (x : SessionData). x.phase) (seat-now h.txns now session u s seat.opened) ∙ is seat;
    };
    runs = λ before. run;
  }

  refused : (r : Refusal) → Places h session a (beside h (refuses r a))
  refused r = stays (reply.Answer (answers.Refused r)) (at_stage stage.Rest a) refl (λ run. away (at_stage stage.Rest a) (λ on. on))

  while-up : (go : Made) → Places h session a go → Places h session a (while_up h a go)
  while-up go places = by h.fault where
    by : (o : Option Fault) → Places h session a (of_some go (λ fault. beside h (refuses (refusal.Panic fault) a)) o)
    by None = places
    by (Some fault) = refused (refusal.Panic fault)

  -- only a transaction that runs goes on
  in-running : (go : Made) → (a.phase ≡ phase.Running → Places h session a go) → Places h session a (of_some go (λ reason. refuses_as reason h a) (unless_running a.phase))
  in-running go places = by a.phase refl where
    by : (p : Phase) → a.phase ≡ p → Places h session a (of_some go (λ reason. refuses_as reason h a) (unless_running p))
    by phase.Idle is = refused (refusal.Invalid invalid.NoTxn)
    by phase.Running is = places is
    by phase.Failed is = refused (refusal.Invalid invalid.FailedTxn)
    by phase.Leaving is = refused (refusal.Invalid invalid.FailedTxn)
    by (phase.Prepared stamp) is = refused (refusal.Invalid invalid.Prepared)
    by phase.Resolving is = refused (refusal.Invalid invalid.Prepared)

  unless : (go : Made) (o : Option Invalid) → Places h session a go → Places h session a (of_some go (λ reason. refuses_as reason h a) o)
  unless go None places = places
  unless go (Some reason) places = refused (refusal.Invalid reason)

  -- ---- begin

  begins : (read : Option ℕ) → Places h session a (begin_made h session a read)
  begins read = while-up (begins_in a.phase h session a read) (by-phase a.phase) where
    by-rules : (o : Result (Unit {0}) Invalid) → Places h session a (begins_by o h session a read)
    by-rules (Ok u) = sets (reply.Answer answers.Done) (begun h.txns session (stamp_of read))
        (record { phase = phase.Running; id = 0; read = stamp_of read; sight = sight_at h.txns.run h.txns.next h.txns.running; written = [] })
        (at_stage stage.Rest (record a { phase = phase.Running })) (record { run = refl; sessions = refl }) (λ seat. refl) (away (at_stage stage.Rest (record a { phase = phase.Running })) (λ on. on))
    by-rules (Err reason) = refused (refusal.Invalid reason)

    by-phase : (p : Phase) → Places h session a (begins_in p h session a read)
    by-phase phase.Idle = by-rules (answer_by (begin_rules h.stamps.oldest read))
    by-phase _ = refused (refusal.Invalid invalid.InTxn)

  -- ---- find

  found : (call : KeyCall) → Places h session a (find_made h session a call)
  found call = while-up (of_some (finds h session a call) (λ reason. refuses_as reason h a) (unless_running a.phase)) (in-running (finds h session a call) (λ running.
      unless (finds_at h session a call (stage_of h.tables h.dir.leaves call a)) (first_of (item_checks a)) (by-stage running (stage_of h.tables h.dir.leaves call a)))) where
        by-id : a.phase ≡ phase.Running → (full : Bool) (to : Stage) → Places h session a (if full then beside h (refuses (refusal.Limit limit.Ids) a) else with_txns h (drawn h.txns session) (reply.More, at_stage to a))
        by-id running true to = refused (refusal.Limit limit.Ids)
        by-id running false to = sets reply.More (drawn h.txns session) (record (session_of h.txns session) { id = h.txns.next }) (at_stage to a) (record { run = refl; sessions = refl }) (λ seat. seat.phase) (record { runs = λ on. running })

        by-draw : a.phase ≡ phase.Running → (first : Bool) (to : Stage) → Places h session a (if first then finds_drawn h session a to else beside h (reply.More, at_stage to a))
        by-draw running true to = by-id running (nat_lt NUMBER_MAX h.txns.next) to
        by-draw running false to = stays reply.More (at_stage to a) refl (λ before. record { runs = λ on. running })

        by-stage : a.phase ≡ phase.Running → (o : Option Stage) → Places h session a (finds_at h session a call o)
        by-stage running None = refused refusal.NoTable
        by-stage running (Some to) = by-draw running (draws call h session) to

  -- ---- at a leaf

  -- the call goes on to a leaf from one
  goes-to : (to : Stage) → IsAtLeaf a.stage → Places h session a (beside h (reply.More, at_stage to a))
  goes-to to on = stays reply.More (at_stage to a) refl (λ before. record { runs = λ later. before.runs on })

  answers-at : (call : KeyCall) (target : Target) (answer : Answer (List ℕ)) → Places h session a (beside h (reply.More, answered call target answer a))
  answers-at call target answer = stays reply.More (answered call target answer a) (ap known_phase (answered-phase call target answer a)) (λ before. away (answered call target answer a) (answered-away call target answer a))

  filled : (call : KeyCall) (wanted : Wanted) → IsAtLeaf a.stage → Places h session a (fill_made h a call wanted)
  filled call wanted on = by (option_map (stage_for call) (leaf_named wanted.leaf h.dir.leaves)) where
    by : (o : Option Stage) → Places h session a (beside h (reply.More, fills_to o call a))
    by None = goes-to (stage.Find call) on
    by (Some to) = goes-to to on

  passed : (call : KeyCall) (target : Target) → IsAtLeaf a.stage → Places h session a (pass_made h a call target)
  passed call target on = by (option_map (stage_for call) (next_for call target.leaf h.dir.leaves)) where
    by : (o : Option Stage) → Places h session a (beside h (reply.More, passes_to o call target a))
    by None = answers-at call target (answers.Refused refusal.NotFound)
    by (Some to) = goes-to to on

  -- ---- prepare

  prepared : (stamp : ℕ) → Places h session a (release_made h session a stamp)
  prepared stamp = while-up (of_some (prepares_by (answer_by (prepare_rules h.stamps.stable stamp)) h session a stamp) (λ reason. refuses_as reason h a) (unless_running a.phase))
      (unless (prepares_by (answer_by (prepare_rules h.stamps.stable stamp)) h session a stamp) (unless_running a.phase) (by-rules (answer_by (prepare_rules h.stamps.stable stamp)))) where
        by-rules : (o : Result (Unit {0}) Invalid) → Places h session a (prepares_by o h session a stamp)
        by-rules (Ok u) = sets (reply.Answer answers.Done) (released_in h.txns session (phase.Prepared stamp)) (seat_in h.txns session (phase.Prepared stamp)) (at_stage stage.Rest (record a { phase = phase.Prepared stamp }))
            (record { run = refl; sessions = refl }) (λ seat. refl) (away (at_stage stage.Rest (record a { phase = phase.Prepared stamp })) (λ on. on))
        by-rules (Err reason) = refused (refusal.Invalid reason)

  -- ---- the end

  ends : (answer : Answer (List ℕ)) (b : State) → Places h session a (with_txns h (ended h.txns session) (finished answer b))
  ends answer b = sets (finished answer b).0 (ended h.txns session) (seat_in h.txns session phase.Idle) (finished answer b).1 (ended-sets h.txns session) (λ seat. sym (ap known_phase (finished-phase answer b))) (away (finished answer b).1 (finished-away answer b))

  settles : Places h session a (done h session a)
  settles = ends a.answer (without_answer a)

  finishes : Places h session a (done_made h session a)
  finishes = while-up (done_in a.phase h session a) (by-phase a.phase) where
    by-phase : (p : Phase) → Places h session a (done_in p h session a)
    by-phase phase.Idle = refused (refusal.Invalid invalid.NoTxn)
    by-phase (phase.Prepared at) = refused (refusal.Invalid invalid.Prepared)
    by-phase _ = settles

  left : (keys : ℕ) (answer : Answer (List ℕ)) → known_phase a.phase ≡ phase.Running → Places h session a (leaves_with keys answer h session a)
  left zero answer running = ends answer a
  left (suc n) answer running = stays reply.More (leaves answer a) (sym running) (λ before. away (leaves answer a) (undoes-away (length a.written)))

  -- ---- commit

  -- the commit or the rollback of a prepared transaction is decided
  abbrev resolving : Stage → State
  resolving g = record a { phase = phase.Resolving; stage = g; answer = answers.Done }

  runs-on : (o : Result (Unit {0}) Invalid) → known_phase a.phase ≡ phase.Running → Places h session a (decides_running o h session a)
  runs-on (Ok u) running = sets (finished answers.Done a).0 (released_in h.txns session phase.Idle) (seat_in h.txns session phase.Idle) (finished answers.Done a).1 (record { run = refl; sessions = refl })
      (λ seat. sym (ap known_phase (finished-phase answers.Done a))) (away (finished answers.Done a).1 (finished-away answers.Done a))
  runs-on (Err reason) running = left (length a.written) (answers.Refused (refusal.Invalid reason)) running

  resolves-on : (stamps : CommitStamps) (o : Result (Unit {0}) Invalid) → Places h session a (decides_prepared o h session a stamps)
  resolves-on stamps (Ok u) = sets reply.More (in_phase h.txns session phase.Resolving) (seat_in h.txns session phase.Resolving)
      (resolving (stamps_then stamps (length a.written) stage.Done)) (record { run = refl; sessions = refl }) (λ seat. refl) (away (resolving (stamps_then stamps (length a.written) stage.Done)) (stamps-away stamps (length a.written) stage.Done (λ off. off)))
  resolves-on stamps (Err reason) = refused (refusal.Invalid reason)

  decided : (stamps : CommitStamps) → Places h session a (decide_made h session a stamps)
  decided stamps = while-up (decides_in a.phase h session a stamps) (by-phase a.phase refl) where
    by-phase : (p : Phase) → a.phase ≡ p → Places h session a (decides_in p h session a stamps)
    by-phase phase.Idle is = refused (refusal.Invalid invalid.NoTxn)
    by-phase phase.Running is = runs-on (answer_by (commit_rules h.stamps.oldest h.stamps.stable stamps.commit stamps.durable stamps.prev)) (ap known_phase is)
    by-phase phase.Failed is = refused (refusal.Invalid invalid.FailedTxn)
    by-phase (phase.Prepared at) is = resolves-on stamps (answer_by (resolve_rules h.stamps.oldest h.stamps.stable at stamps.commit stamps.durable stamps.prev))
    by-phase phase.Resolving is = settles
    by-phase phase.Leaving is = settles

  -- ---- rollback

  resolved : Places h session a (resolve_made h session a)
  resolved = while-up (resolves_in a.phase h session a) (by-phase a.phase refl) where
    by-phase : (p : Phase) → a.phase ≡ p → Places h session a (resolves_in p h session a)
    by-phase phase.Idle is = refused (refusal.Invalid invalid.NoTxn)
    by-phase (phase.Prepared at) is = sets reply.More (in_phase h.txns session phase.Resolving) (seat_in h.txns session phase.Resolving)
        (resolving (undoes (length a.written))) (record { run = refl; sessions = refl }) (λ seat. refl) (away (resolving (undoes (length a.written))) (undoes-away (length a.written)))
    by-phase phase.Running is = left (length a.written) answers.Done (ap known_phase is)
    by-phase phase.Failed is = left (length a.written) answers.Done (ap known_phase is)
    by-phase phase.Resolving is = settles
    by-phase phase.Leaving is = settles

  -- ---- any of them

  pub places : Places h session a (hub_made h session a)
  places = by a.stage refl where
    by : (g : Stage) → a.stage ≡ g → Places h session a (hub_made_at g h session a)
    by (stage.Begin read) is = begins read
    by (stage.Find call) is = found call
    by (stage.Fill call wanted) is = filled call wanted (subst IsAtLeaf (sym is) tt)
    by (stage.Pass call target) is = passed call target (subst IsAtLeaf (sym is) tt)
    by (stage.History call target) is = answers-at call target (history_answer h.fault)
    by (stage.Release stamp) is = prepared stamp
    by (stage.Decide stamps) is = decided stamps
    by stage.Resolve is = resolved
    by stage.Done is = finishes
    by _ is = stays reply.More a refl (λ before. before)

pub hub-keeps : HubKeeps
hub-keeps h session a = (places h session a).kept
