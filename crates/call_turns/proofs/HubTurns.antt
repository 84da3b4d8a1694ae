-- An event on the hub leaves fewer steps.
use Rattle.std.proofs.Common.{◌≡◌, ◌⊎◌, ◌<◌, ◌≤◌, ◌+◌, ℕ, zero, suc, refl, sym, Bool, true, false, List, length, inl, inr, subst, arith}
use Rattle.std.specs.Prelude.{Option, Some, None, option_and_then, option_map, slice_get, nat_lt, Result, Ok, Err, if◌then◌else◌}
use Rattle.std.specs.List.{Contains}
use Rattle.std.proofs.lemmas.Option.{same_Some}
use Rattle.failure.specs.declared.Fault.{Fault}
use Rattle.limits.specs.declared.TheConstants.{NUMBER_MAX}
use Rattle.wt_code.specs.declared.answers.Answer.{Answer}
use Rattle.wt_code.specs.declared.answers.Answer.TheVariants as answers
use Rattle.wt_code.specs.declared.refusals.Refusal.{Refusal}
use Rattle.wt_code.specs.declared.refusals.Refusal.TheVariants as refusal
use Rattle.wt_code.specs.declared.refusals.Invalid.{Invalid}
use Rattle.wt_code.specs.declared.refusals.Invalid.TheVariants as invalid
use Rattle.wt_code.specs.declared.refusals.Limit.TheVariants as limit
use Rattle.kv_model.specs.History.{Table}
use Rattle.kv_model.specs.Machine.{of_some}
use Rattle.kv_model.specs.Refusals.{begin_rules, commit_rules, first_of, prepare_rules, resolve_rules}
use Rattle.ts_rules.specs.Rules.{answer_by}
use Rattle.tree_dir.specs.declared.leaf.Framed.{Framed}
use Rattle.tree_dir.specs.declared.leaf.Leaf.{Leaf}
use Rattle.tree_dir.specs.Leaves.{IsDirectory}
use Rattle.txn_table.specs.declared.phase.Phase.{Phase}
use Rattle.txn_table.specs.declared.phase.Phase.TheVariants as phase
use Rattle.txn_table.specs.Tabled.{drawn}
use Rattle.catalog.specs.Known.{place_of}
use Rattle.call_steps.specs.declared.hub.Hub.{Hub}
use Rattle.call_steps.specs.declared.next.Next.TheVariants as next
use Rattle.call_steps.specs.declared.reply.Reply.TheVariants as reply
use Rattle.call_steps.specs.declared.stage.CommitStamps.{CommitStamps}
use Rattle.call_steps.specs.declared.stage.KeyCall.{KeyCall}
use Rattle.call_steps.specs.declared.stage.Stage.{Stage}
use Rattle.call_steps.specs.declared.stage.Stage.TheVariants as stage
use Rattle.call_steps.specs.declared.stage.Target.{Target}
use Rattle.call_steps.specs.declared.stage.Wanted.{Wanted}
use Rattle.call_steps.specs.HubEvents.{Made, begin_made, begins_by, begins_in, beside, decide_made, decides_in, decides_prepared, decides_running, done, done_in, done_made, draws, find_made, finds, finds_at, finds_drawn, fill_made, fills_to, history_answer, hub_made_at, item_checks, leaves_with, pass_made, passes_to, prepares_by, refuses_as, release_made, resolve_made, resolves_in, while_up, with_txns}
use Rattle.call_steps.specs.Stages.{cursor_in, stamps_then, undoes}
use Rattle.call_steps.specs.State.{State, answered, at_stage, clears, leaves, moves, refuses, without_answer}
use Rattle.call_steps.specs.Tables.{leaf_for, next_for, sought, stage_for, stage_of}
use Rattle.call_steps.specs.Words.{next_at, unless_running}
use Rattle.call_turns.specs.Turns.{HubLowers, IsNoAnswer, IsReady, decide_turns, done_turns, fill_turns, find_turns, further, turns, turns_at}
use Rattle.call_turns.proofs.Pins.{finished-less}
use Rattle.call_turns.proofs.Walks.{found-less, named-is, next-less, sought-there, stage_in}

-- what an event leaves is less, unless the call has ended
abbrev Falls : List Leaf → ℕ → Made → Type 0
Falls leaves n made = IsNoAnswer made.0 → turns leaves made.1.1 < n

-- ---- an answer

pub answered-less : (leaves : List Leaf) (call : KeyCall) (target : Target) (answer : Answer (List ℕ)) (a : State) → turns leaves (answered call target answer a) < 3
answered-less leaves call target answer a = by-cursor (cursor_in call) where
  by-answer : (cursor : ℕ) (answer : Answer (List ℕ)) → turns leaves (moves cursor call target answer a) < 3
  by-answer cursor (answers.Refused refusal.NotFound) = omega arith
  by-answer cursor answer = omega arith

  by-cursor : (o : Option ℕ) → turns leaves (of_some (clears call target answer a) (λ cursor. moves cursor call target answer a) o) < 3
  by-cursor None = omega arith
  by-cursor (Some cursor) = by-answer cursor answer

module _ (h : Hub) (session : ℕ) (a : State) (n : ℕ) where
  abbrev Less : Made → Type 0
  Less made = Falls h.dir.leaves n made

  -- a refusal ends the call
  refused : (r : Refusal) → Less (beside h (refuses r a))
  refused r goes = absurd (goes (answers.Refused r) refl)

  while-up : (go : Made) → Less go → Less (while_up h a go)
  while-up go less = by h.fault where
    by : (o : Option Fault) → Less (of_some go (λ fault. beside h (refuses (refusal.Panic fault) a)) o)
    by None = less
    by (Some fault) = refused (refusal.Panic fault)

  -- nothing is wrong, or the call is refused
  unless : (go : Made) (o : Option Invalid) → Less go → Less (of_some go (λ reason. refuses_as reason h a) o)
  unless go None less = less
  unless go (Some reason) less = refused (refusal.Invalid reason)

-- ---- begin

begin-less : (h : Hub) (session : ℕ) (a : State) (read : Option ℕ) → Falls h.dir.leaves 1 (begin_made h session a read)
begin-less h session a read = while-up h session a 1 (begins_in a.phase h session a read) (by-phase a.phase) where
  by-rules : (o : Result (Unit {0}) Invalid) → Falls h.dir.leaves 1 (begins_by o h session a read)
  by-rules (Ok u) = λ goes. absurd (goes answers.Done refl)
  by-rules (Err reason) = refused h session a 1 (refusal.Invalid reason)

  by-phase : (p : Phase) → Falls h.dir.leaves 1 (begins_in p h session a read)
  by-phase phase.Idle = by-rules (answer_by (begin_rules h.stamps.oldest read))
  by-phase _ = refused h session a 1 (refusal.Invalid invalid.InTxn)

-- ---- find

-- the stage at the leaf at which a call begins
record IsFound (h : Hub) (call : KeyCall) (to : Stage) : Type 0 where
  leaf : Leaf
  there : Contains h.dir.leaves leaf
  is : to ≡ stage_for call leaf

stage-found : (h : Hub) (call : KeyCall) (a : State) (to : Stage) → IsDirectory h.dir → stage_of h.tables h.dir.leaves call a ≡ Some to → IsFound h call to
stage-found h call a to dir = by-table (option_and_then (λ place. slice_get h.tables.tables place) (place_of a.name h.tables.tables)) where
  by-leaf : (t : Table) (o : Option Leaf) → leaf_for h.dir.leaves call a t ≡ o → option_map (stage_for call) o ≡ Some to → IsFound h call to
  by-leaf t None none e = absurd cc
  by-leaf t (Some l) found e = record { leaf = l; there = sought-there h.dir t.number (sought call a t.number) l dir found; is = same_Some to (stage_for call l) (sym e) }

  by-table : (o : Option Table) → option_map (stage_for call) (option_and_then (leaf_for h.dir.leaves call a) o) ≡ Some to → IsFound h call to
  by-table None e = absurd cc
  by-table (Some t) e = by-leaf t (leaf_for h.dir.leaves call a t) refl e

find-less : (h : Hub) (session : ℕ) (a : State) (call : KeyCall) → IsDirectory h.dir → Falls h.dir.leaves find_turns (find_made h session a call)
find-less h session a call dir = while-up h session a find_turns (of_some (finds h session a call) (λ reason. refuses_as reason h a) (unless_running a.phase))
    (unless h session a find_turns (finds h session a call) (unless_running a.phase)
    (unless h session a find_turns (finds_at h session a call (stage_of h.tables h.dir.leaves call a)) (first_of (item_checks a)) (by-stage (stage_of h.tables h.dir.leaves call a) refl))) where
      less : (to : Stage) → IsFound h call to → turns h.dir.leaves (at_stage to a) < find_turns
      less to f = subst (λ g. turns h.dir.leaves (at_stage g a) < find_turns) (sym f.is) (found-less call h.dir f.leaf (at_stage (stage_for call f.leaf) a) dir f.there)

      by-id : (full : Bool) (to : Stage) → IsFound h call to → Falls h.dir.leaves find_turns (if full then beside h (refuses (refusal.Limit limit.Ids) a) else with_txns h (drawn h.txns session) (reply.More, at_stage to a))
      by-id true to f = refused h session a find_turns (refusal.Limit limit.Ids)
      by-id false to f = λ goes. less to f

      by-draw : (first : Bool) (to : Stage) → IsFound h call to → Falls h.dir.leaves find_turns (if first then finds_drawn h session a to else beside h (reply.More, at_stage to a))
      by-draw true to f = by-id (nat_lt NUMBER_MAX h.txns.next) to f
      by-draw false to f = λ goes. less to f

      by-stage : (o : Option Stage) → stage_of h.tables h.dir.leaves call a ≡ o → Falls h.dir.leaves find_turns (finds_at h session a call o)
      by-stage None none = refused h session a find_turns refusal.NoTable
      by-stage (Some to) found = by-draw (draws call h session) to (stage-found h call a to dir found)

-- ---- a leaf that was waited for, and the next one

fill-less : (h : Hub) (a : State) (call : KeyCall) (wanted : Wanted) → IsReady h.dir.leaves (stage.Fill call wanted) → Falls h.dir.leaves (turns_at (stage.Fill call wanted) h.dir.leaves a) (fill_made h a call wanted)
fill-less h a call wanted (inl gone) = λ goes. subst (λ (o : Option Leaf). turns h.dir.leaves (fills_to (option_map (stage_for call) o) call a) < fill_turns o call wanted.leaf h.dir.leaves) (sym gone) (omega arith)
fill-less h a call wanted (inr (l, f, there, framed)) = λ goes. subst (λ (o : Option Leaf). turns h.dir.leaves (fills_to (option_map (stage_for call) o) call a) < fill_turns o call wanted.leaf h.dir.leaves) (sym there)
    (subst (λ (o : Option Framed). turns h.dir.leaves (at_stage (stage_in call l o) a) < 7 + further call wanted.leaf h.dir.leaves) (sym framed)
    (subst (λ id. 6 + further call id h.dir.leaves < 7 + further call wanted.leaf h.dir.leaves) (sym (named-is wanted.leaf h.dir.leaves l there)) (omega arith)))

pass-less : (h : Hub) (a : State) (call : KeyCall) (target : Target) → IsDirectory h.dir → Falls h.dir.leaves (3 + further call target.leaf h.dir.leaves) (pass_made h a call target)
pass-less h a call target dir = by (next_for call target.leaf h.dir.leaves) refl where
  by : (o : Option Leaf) → next_for call target.leaf h.dir.leaves ≡ o → Falls h.dir.leaves (3 + further call target.leaf h.dir.leaves) (beside h (reply.More, passes_to (option_map (stage_for call) o) call target a))
  by None none = λ goes. let low = answered-less h.dir.leaves call target (answers.Refused refusal.NotFound) a in omega (arith, low)
  by (Some n) is = λ goes. next-less call h.dir target.leaf n (at_stage (stage_for call n) a) dir is

-- ---- prepare

release-less : (h : Hub) (session : ℕ) (a : State) (stamp : ℕ) → Falls h.dir.leaves 1 (release_made h session a stamp)
release-less h session a stamp = while-up h session a 1 (of_some (prepares_by (answer_by (prepare_rules h.stamps.stable stamp)) h session a stamp) (λ reason. refuses_as reason h a) (unless_running a.phase))
    (unless h session a 1 (prepares_by (answer_by (prepare_rules h.stamps.stable stamp)) h session a stamp) (unless_running a.phase) (by-rules (answer_by (prepare_rules h.stamps.stable stamp)))) where
      by-rules : (o : Result (Unit {0}) Invalid) → Falls h.dir.leaves 1 (prepares_by o h session a stamp)
      by-rules (Ok u) = λ goes. absurd (goes answers.Done refl)
      by-rules (Err reason) = refused h session a 1 (refusal.Invalid reason)

-- ---- the end

undoes-less : (leaves : List Leaf) (a : State) (keys : ℕ) → turns_at (undoes keys) leaves a ≤ keys + (done_turns a + 1)
undoes-less leaves a zero = omega arith
undoes-less leaves a (suc n) = omega arith

module _ (h : Hub) (session : ℕ) (a : State) where
  done-less : (n : ℕ) → done_turns a ≤ n → Falls h.dir.leaves n (done h session a)
  done-less n within = λ goes. let low = finished-less h.dir.leaves a.answer (without_answer a) goes in omega (arith, low, within)

  done-made-less : Falls h.dir.leaves (done_turns a) (done_made h session a)
  done-made-less = while-up h session a (done_turns a) (done_in a.phase h session a) (by-phase a.phase) where
    by-phase : (p : Phase) → Falls h.dir.leaves (done_turns a) (done_in p h session a)
    by-phase phase.Idle = refused h session a (done_turns a) (refusal.Invalid invalid.NoTxn)
    by-phase (phase.Prepared at) = refused h session a (done_turns a) (refusal.Invalid invalid.Prepared)
    by-phase _ = done-less (done_turns a) (omega arith)

  -- a transaction that is rolled back ends at once where it wrote nothing
  leaves-less : (keys : ℕ) (answer : Answer (List ℕ)) → length a.written ≡ keys → Falls h.dir.leaves (decide_turns a) (leaves_with keys answer h session a)
  leaves-less zero answer many = λ goes. let low = finished-less h.dir.leaves answer a goes in omega (arith, low)
  leaves-less (suc n) answer many = λ goes. let low = undoes-less h.dir.leaves (leaves answer a) (length a.written) in omega (arith, low)

  settles : Less h session a (decide_turns a) (done h session a)
  settles = done-less (decide_turns a) (omega arith)

  -- ---- commit

  stamps-less : (stamps : CommitStamps) (keys : ℕ) → turns_at (stamps_then stamps keys stage.Done) h.dir.leaves (record a { phase = phase.Resolving; stage = stamps_then stamps keys stage.Done; answer = answers.Done }) ≤ keys + (done_turns a + 1)
  stamps-less stamps zero = omega arith
  stamps-less stamps (suc n) = omega arith

  running-less : (o : Result (Unit {0}) Invalid) → Less h session a (decide_turns a) (decides_running o h session a)
  running-less (Ok u) = λ goes. let low = finished-less h.dir.leaves answers.Done a goes in omega (arith, low)
  running-less (Err reason) = leaves-less (length a.written) (answers.Refused (refusal.Invalid reason)) refl

  prepared-less : (stamps : CommitStamps) (o : Result (Unit {0}) Invalid) → Less h session a (decide_turns a) (decides_prepared o h session a stamps)
  prepared-less stamps (Ok u) = λ goes. let low = stamps-less stamps (length a.written) in omega (arith, low)
  prepared-less stamps (Err reason) = refused h session a (decide_turns a) (refusal.Invalid reason)

  decide-less : (stamps : CommitStamps) → Less h session a (decide_turns a) (decide_made h session a stamps)
  decide-less stamps = while-up h session a (decide_turns a) (decides_in a.phase h session a stamps) (by-phase a.phase) where
    by-phase : (p : Phase) → Less h session a (decide_turns a) (decides_in p h session a stamps)
    by-phase phase.Idle = refused h session a (decide_turns a) (refusal.Invalid invalid.NoTxn)
    by-phase phase.Running = running-less (answer_by (commit_rules h.stamps.oldest h.stamps.stable stamps.commit stamps.durable stamps.prev))
    by-phase phase.Failed = refused h session a (decide_turns a) (refusal.Invalid invalid.FailedTxn)
    by-phase (phase.Prepared at) = prepared-less stamps (answer_by (resolve_rules h.stamps.oldest h.stamps.stable at stamps.commit stamps.durable stamps.prev))
    by-phase phase.Resolving = settles
    by-phase phase.Leaving = settles

  -- ---- rollback

  resolve-less : Less h session a (decide_turns a) (resolve_made h session a)
  resolve-less = while-up h session a (decide_turns a) (resolves_in a.phase h session a) (by-phase a.phase) where
    by-phase : (p : Phase) → Less h session a (decide_turns a) (resolves_in p h session a)
    by-phase phase.Idle = refused h session a (decide_turns a) (refusal.Invalid invalid.NoTxn)
    by-phase (phase.Prepared at) = λ goes. let low = undoes-less h.dir.leaves (record a { phase = phase.Resolving; stage = undoes (length a.written); answer = answers.Done }) (length a.written) in omega (arith, low)
    by-phase phase.Running = leaves-less (length a.written) answers.Done refl
    by-phase phase.Failed = leaves-less (length a.written) answers.Done refl
    by-phase phase.Resolving = settles
    by-phase phase.Leaving = settles

-- ---- any of them

pub hub-lowers : HubLowers
hub-lowers h session a dir on = by a.stage on where
  by : (g : Stage) → (next_at g a ≡ next.Hub) ⊎ IsReady h.dir.leaves g → Falls h.dir.leaves (turns_at g h.dir.leaves a) (hub_made_at g h session a)
  by (stage.Begin read) on = begin-less h session a read
  by (stage.Find call) on = find-less h session a call dir
  by (stage.Fill call wanted) (inl is) = absurd cc
  by (stage.Fill call wanted) (inr ready) = fill-less h a call wanted ready
  by (stage.Pass call target) on = pass-less h a call target dir
  by (stage.History call target) on = λ goes. answered-less h.dir.leaves call target (history_answer h.fault) a
  by (stage.Release stamp) on = release-less h session a stamp
  by (stage.Decide stamps) on = decide-less h session a stamps
  by stage.Resolve on = resolve-less h session a
  by stage.Done on = done-made-less h session a
  by g (inl is) = absurd cc
  by g (inr ready) = absurd ready
