-- What the events on the hub make of it and of the session.
use Rattle.std.specs.Prelude.{◌≡◌, ◌<◌, ℕ, zero, suc, ◌==◌, Bool, not, ◌&&◌, nat_lt, List, [], ◌∷◌, length, Option, Some, None, option_map, if◌then◌else◌, Result, Ok, Err}
use Rattle.failure.specs.declared.Fault.{Fault}
use Rattle.wt_code.specs.declared.answers.Answer.{Answer}
use Rattle.wt_code.specs.declared.answers.Answer.TheVariants as answer
use Rattle.wt_code.specs.declared.refusals.Refusal.TheVariants as refusal
use Rattle.wt_code.specs.declared.refusals.Invalid.{Invalid}
use Rattle.wt_code.specs.declared.refusals.Invalid.TheVariants as invalid
use Rattle.wt_code.specs.declared.refusals.Limit.TheVariants as limit
use Rattle.kv_model.specs.Machine.{of_some}
use Rattle.limits.specs.declared.TheConstants.{KEY_MAX, VALUE_MAX, NUMBER_MAX}
use Rattle.kv_model.specs.Decisions.{is_name}
use Rattle.kv_model.specs.Refusals.{first_of, stamp_of, begin_rules, prepare_rules, commit_rules, resolve_rules}
use Rattle.ts_rules.specs.Rules.{answer_by}
use Rattle.txn_table.specs.declared.phase.Phase.{Phase}
use Rattle.txn_table.specs.declared.phase.Phase.TheVariants as phase
use Rattle.txn_table.specs.Tabled.{Table, session_of, phase_of, begun, drawn, in_phase, released_in, ended}
use Rattle.call_steps.specs.declared.hub.Hub.{Hub}
use Rattle.call_steps.specs.declared.reply.Reply.{Reply}
use Rattle.call_steps.specs.declared.reply.Reply.TheVariants as reply
use Rattle.call_steps.specs.declared.stage.CommitStamps.{CommitStamps}
use Rattle.call_steps.specs.declared.stage.KeyCall.{KeyCall}
use Rattle.call_steps.specs.declared.stage.Stage.{Stage}
use Rattle.call_steps.specs.declared.stage.Stage.TheVariants as stage
use Rattle.call_steps.specs.declared.stage.Target.{Target}
use Rattle.call_steps.specs.declared.stage.Wanted.{Wanted}
use Rattle.tree_dir.specs.Leaves.{leaf_named}
use Rattle.call_steps.specs.Stages.{is_write, stamps_then, undoes}
use Rattle.call_steps.specs.State.{State, at_stage, refuses, answered, finished, leaves, without_answer}
use Rattle.call_steps.specs.Tables.{next_for, stage_for, stage_of}
use Rattle.call_steps.specs.Words.{unless_running}

-- the reply, and what is left
abbrev pub Made : Type 0
Made = Reply × (Hub × State)

-- the phase in which the table of transactions has a session: it learns of a write that was refused, and of updates that are taken out, at the end of the transaction
abbrev pub known_phase : Phase → Phase
known_phase phase.Failed = phase.Running
known_phase phase.Leaving = phase.Running
known_phase other = other

-- the session has a place in the table, which knows its phase
pub record IsSeated (h : Hub) (session : ℕ) (s : State) : Type 0 where
  pub opened : session < length h.txns.sessions
  pub phase : phase_of h.txns session ≡ known_phase s.phase

-- the hub stays
abbrev pub beside : Hub → Reply × State → Made
beside h made = (made.0, (h, made.1))

abbrev pub with_txns : Hub → Table → Reply × State → Made
with_txns h txns made = (made.0, (record h { txns = txns }, made.1))

-- after a write or sync failed each event refuses first
abbrev pub while_up : Hub → State → Made → Made
while_up h s go = of_some go (λ fault. beside h (refuses (refusal.Panic fault) s)) h.fault

abbrev pub refuses_as : Invalid → Hub → State → Made
refuses_as reason h s = beside h (refuses (refusal.Invalid reason) s)

-- ---- begin

abbrev pub begins : Hub → ℕ → State → Option ℕ → Made
begins h session s read = with_txns h (begun h.txns session (stamp_of read)) (reply.Answer answer.Done, at_stage stage.Rest (record s { phase = phase.Running }))

abbrev pub begins_by : Result (Unit {0}) Invalid → Hub → ℕ → State → Option ℕ → Made
begins_by (Ok u) h session s read = begins h session s read
begins_by (Err reason) h session s read = refuses_as reason h s

abbrev pub begins_in : Phase → Hub → ℕ → State → Option ℕ → Made
begins_in phase.Idle h session s read = begins_by (answer_by (begin_rules h.stamps.oldest read)) h session s read
begins_in _ h session s read = refuses_as invalid.InTxn h s

abbrev pub begin_made : Hub → ℕ → State → Option ℕ → Made
begin_made h session s read = while_up h s (begins_in s.phase h session s read)

-- ---- find

-- what is wrong with the name, the key and the value of a call, in the order of refusals
abbrev pub item_checks : State → List (Bool × Invalid)
item_checks s =
    (not (is_name s.name), invalid.BadName) ∷ ((nat_lt KEY_MAX (length s.key), invalid.KeyLong (length s.key))
    ∷ ((nat_lt VALUE_MAX (length s.value), invalid.ValueLong (length s.value)) ∷ []))

-- the first write of a transaction draws its id
abbrev pub draws : KeyCall → Hub → ℕ → Bool
draws call h session = is_write call && ((session_of h.txns session).id == 0)

abbrev pub finds_drawn : Hub → ℕ → State → Stage → Made
finds_drawn h session s to =
    if nat_lt NUMBER_MAX h.txns.next then beside h (refuses (refusal.Limit limit.Ids) s)
    else with_txns h (drawn h.txns session) (reply.More, at_stage to s)

abbrev pub finds_at : Hub → ℕ → State → KeyCall → Option Stage → Made
finds_at h session s call None = beside h (refuses refusal.NoTable s)
finds_at h session s call (Some to) = if draws call h session then finds_drawn h session s to else beside h (reply.More, at_stage to s)

abbrev pub finds : Hub → ℕ → State → KeyCall → Made
finds h session s call = of_some (finds_at h session s call (stage_of h.tables h.dir.leaves call s)) (λ reason. refuses_as reason h s) (first_of (item_checks s))

abbrev pub find_made : Hub → ℕ → State → KeyCall → Made
find_made h session s call = while_up h s (of_some (finds h session s call) (λ reason. refuses_as reason h s) (unless_running s.phase))

-- ---- history

-- the history has no version; the call's word is to be cleared also where a fault is told
abbrev pub history_answer : Option Fault → Answer (List ℕ)
history_answer None = answer.Refused refusal.NotFound
history_answer (Some fault) = answer.Refused (refusal.Panic fault)

abbrev pub history_made : Hub → State → KeyCall → Target → Made
history_made h s call target = beside h (reply.More, answered call target (history_answer h.fault) s)

-- ---- a leaf that was waited for

-- it is sought anew where it is gone
abbrev pub fills_to : Option Stage → KeyCall → State → State
fills_to None call s = at_stage (stage.Find call) s
fills_to (Some to) call s = at_stage to s

abbrev pub fill_made : Hub → State → KeyCall → Wanted → Made
fill_made h s call wanted = beside h (reply.More, fills_to (option_map (stage_for call) (leaf_named wanted.leaf h.dir.leaves)) call s)

-- ---- the next leaf

-- no row was found in a leaf: the call goes on to this one, or there is none further on
abbrev pub passes_to : Option Stage → KeyCall → Target → State → State
passes_to None call target s = answered call target (answer.Refused refusal.NotFound) s
passes_to (Some to) call target s = at_stage to s

-- a fault is not told here: the answer is not decided yet
abbrev pub pass_made : Hub → State → KeyCall → Target → Made
pass_made h s call target = beside h (reply.More, passes_to (option_map (stage_for call) (next_for call target.leaf h.dir.leaves)) call target s)

-- ---- prepare

abbrev pub prepares : Hub → ℕ → State → ℕ → Made
prepares h session s stamp =
    with_txns h (released_in h.txns session (phase.Prepared stamp)) (reply.Answer answer.Done, at_stage stage.Rest (record s { phase = phase.Prepared stamp }))

abbrev pub prepares_by : Result (Unit {0}) Invalid → Hub → ℕ → State → ℕ → Made
prepares_by (Ok u) h session s stamp = prepares h session s stamp
prepares_by (Err reason) h session s stamp = refuses_as reason h s

abbrev pub release_made : Hub → ℕ → State → ℕ → Made
release_made h session s stamp =
    while_up h s (of_some (prepares_by (answer_by (prepare_rules h.stamps.stable stamp)) h session s stamp) (λ reason. refuses_as reason h s) (unless_running s.phase))

-- ---- the end

-- the transaction ends with the answer that was decided
abbrev pub done : Hub → ℕ → State → Made
done h session s = with_txns h (ended h.txns session) (finished s.answer (without_answer s))

abbrev pub done_in : Phase → Hub → ℕ → State → Made
done_in phase.Idle h session s = refuses_as invalid.NoTxn h s
done_in (phase.Prepared at) h session s = refuses_as invalid.Prepared h s
done_in _ h session s = done h session s

abbrev pub done_made : Hub → ℕ → State → Made
done_made h session s = while_up h s (done_in s.phase h session s)

-- ---- commit

-- a running transaction that is refused is rolled back, at once where it wrote nothing
abbrev pub leaves_with : ℕ → Answer (List ℕ) → Hub → ℕ → State → Made
leaves_with zero a h session s = with_txns h (ended h.txns session) (finished a s)
leaves_with (suc n) a h session s = beside h (reply.More, leaves a s)

abbrev pub decides_running : Result (Unit {0}) Invalid → Hub → ℕ → State → Made
decides_running (Ok u) h session s = with_txns h (released_in h.txns session phase.Idle) (finished answer.Done s)
decides_running (Err reason) h session s = leaves_with (length s.written) (answer.Refused (refusal.Invalid reason)) h session s

abbrev pub decides_prepared : Result (Unit {0}) Invalid → Hub → ℕ → State → CommitStamps → Made
decides_prepared (Ok u) h session s stamps =
    with_txns h (in_phase h.txns session phase.Resolving) (reply.More, record s { phase = phase.Resolving; stage = stamps_then stamps (length s.written) stage.Done; answer = answer.Done })
decides_prepared (Err reason) h session s stamps = refuses_as reason h s

abbrev pub decides_in : Phase → Hub → ℕ → State → CommitStamps → Made
decides_in phase.Idle h session s stamps = refuses_as invalid.NoTxn h s
decides_in phase.Running h session s stamps = decides_running (answer_by (commit_rules h.stamps.oldest h.stamps.stable stamps.commit stamps.durable stamps.prev)) h session s
decides_in phase.Failed h session s stamps = refuses_as invalid.FailedTxn h s
decides_in (phase.Prepared at) h session s stamps =
    decides_prepared (answer_by (resolve_rules h.stamps.oldest h.stamps.stable at stamps.commit stamps.durable stamps.prev)) h session s stamps
decides_in phase.Resolving h session s stamps = done h session s
decides_in phase.Leaving h session s stamps = done h session s

abbrev pub decide_made : Hub → ℕ → State → CommitStamps → Made
decide_made h session s stamps = while_up h s (decides_in s.phase h session s stamps)

-- ---- rollback

abbrev pub resolves_in : Phase → Hub → ℕ → State → Made
resolves_in phase.Idle h session s = refuses_as invalid.NoTxn h s
resolves_in (phase.Prepared at) h session s =
    with_txns h (in_phase h.txns session phase.Resolving) (reply.More, record s { phase = phase.Resolving; stage = undoes (length s.written); answer = answer.Done })
resolves_in phase.Running h session s = leaves_with (length s.written) answer.Done h session s
resolves_in phase.Failed h session s = leaves_with (length s.written) answer.Done h session s
resolves_in phase.Resolving h session s = done h session s
resolves_in phase.Leaving h session s = done h session s

abbrev pub resolve_made : Hub → ℕ → State → Made
resolve_made h session s = while_up h s (resolves_in s.phase h session s)

-- ---- any of them

abbrev pub hub_made_at : Stage → Hub → ℕ → State → Made
hub_made_at (stage.Begin read) h session s = begin_made h session s read
hub_made_at (stage.Find call) h session s = find_made h session s call
hub_made_at (stage.Fill call wanted) h session s = fill_made h s call wanted
hub_made_at (stage.Pass call target) h session s = pass_made h s call target
hub_made_at (stage.History call target) h session s = history_made h s call target
hub_made_at (stage.Release stamp) h session s = release_made h session s stamp
hub_made_at (stage.Decide stamps) h session s = decide_made h session s stamps
hub_made_at stage.Resolve h session s = resolve_made h session s
hub_made_at stage.Done h session s = done_made h session s
hub_made_at _ h session s = beside h (reply.More, s)

abbrev pub hub_made : Hub → ℕ → State → Made
hub_made h session s = hub_made_at s.stage h session s
