-- Sessions and names that fit go on to fit: what an event on the hub or on a word and the start of a call leave.
use Rattle.std.proofs.Common.{◌≡◌, ◌≢◌, ◌<◌, ◌≤◌, ℕ, zero, suc, refl, sym, Bool, true, false, List, [], ◌∷◌, ◌++◌, length, inl, inr, subst, arith}
use Rattle.std.specs.Prelude.{Option, Some, None, Result, Ok, Err, if◌then◌else◌, nat_le, nat_lt, ◌==◌, ◌&&◌, ◌||◌, option_and_then, option_map, slice_get, slice_set}
use Rattle.std.proofs.lemmas.Bool.{ltb-false}
use Rattle.wt_code.specs.declared.answers.Answer.{Answer}
use Rattle.wt_code.specs.declared.answers.Answer.TheVariants as answers
use Rattle.failure.specs.declared.Fault.{Fault}
use Rattle.wt_code.specs.declared.refusals.Refusal.{Refusal}
use Rattle.wt_code.specs.declared.refusals.Refusal.TheVariants as refusal
use Rattle.wt_code.specs.declared.refusals.Invalid.{Invalid}
use Rattle.wt_code.specs.declared.refusals.Invalid.TheVariants as invalid
use Rattle.wt_code.specs.declared.refusals.Limit.TheVariants as limit
use Rattle.limits.specs.declared.TheConstants.{KEY_MAX, VALUE_MAX, NUMBER_MAX}
use Rattle.kv_model.specs.Machine.{of_some}
use Rattle.kv_model.specs.Refusals.{first_of, begin_rules, commit_rules, is_zero, or_stamp, order_rule, prepare_rules, resolve_rules, stamp_of}
use Rattle.ts_rules.specs.Rules.{answer_by}
use Rattle.txn_table.specs.declared.phase.Phase.{Phase}
use Rattle.txn_table.specs.declared.phase.Phase.TheVariants as phase
use Rattle.txn_table.specs.Tabled.{Table, begun, drawn, ended, in_phase, one_more, released_in}
use Rattle.tree_dir.specs.declared.leaf.Leaf.{Leaf}
use Rattle.tree_dir.specs.Leaves.{leaf_named}
use Rattle.catalog.specs.Known.{place_of}
use Rattle.wt_calls.specs.declared.session_call.SessionCall.{SessionCall}
use Rattle.wt_calls.specs.declared.session_call.SessionCall.TheVariants as call
use Rattle.call_steps.specs.declared.hub.Hub.{Hub}
use Rattle.call_steps.specs.declared.reply.Reply.{Reply}
use Rattle.call_steps.specs.declared.reply.Reply.TheVariants as reply
use Rattle.call_steps.specs.declared.stage.CommitStamps.{CommitStamps}
use Rattle.call_steps.specs.declared.stage.KeyCall.{KeyCall}
use Rattle.call_steps.specs.declared.stage.Stage.{Stage}
use Rattle.call_steps.specs.declared.stage.Stage.TheVariants as stage
use Rattle.call_steps.specs.declared.stage.Target.{Target}
use Rattle.call_steps.specs.HubEvents.{Made, beside, fills_to, passes_to, history_answer, with_txns, hub_made, hub_made_at, begins_in, begins_by, find_made, finds, finds_at, finds_drawn, draws, prepares_by, done, done_in, decides_in, decides_running, decides_prepared, leaves_with, resolves_in, refuses_as, item_checks}
use Rattle.call_steps.specs.Stages.{after_orders, after_stamps, cursor_in, first_mark, first_order, first_undo, is_write, marks, orders, stamps_then, undo_or_resolve, undoes}
use Rattle.call_steps.specs.Starts.{Starts, StartsAt, StartsIn}
use Rattle.call_steps.specs.State.{State, answered, at_stage, clears, finished, first_pinned, forgotten, leaves, moves, opened, refuses, without_answer}
use Rattle.call_steps.specs.Tables.{leaf_for, next_for, stage_by, stage_for, stage_of, target_in}
use Rattle.call_steps.specs.Words.{ends, kept_out, kept_out_at, loaded, loaded_at, reset, stored, stored_at, unless_running, unpinned_in}
use Rattle.call_turns.proofs.OneSession.{one-set}
use Rattle.engine_world.proofs.Appended.{append-finds}
use Rattle.engine.specs.Sizes.{CallFitsAt, ItemsFit, KeyCallFits, MayOrder, MayStamp, NamesFit, SessionsFit, id_of}
use Rattle.engine.proofs.Names.{TableFits, begun-names, drawn-names, drawn-some, ended-names, more-id, phase-names, released-names}

-- ---- sessions

abbrev pub CallFitsIn : ℕ → State → Type 0
CallFitsIn id a = CallFitsAt a.stage id a

-- one session goes on, and the others keep their ids
pub sessions-set : (t now : Table) (sessions : List State) (session : ℕ) (a b : State) → SessionsFit t sessions → slice_get sessions session ≡ Some a → ((r : ℕ) → r ≢ session → id_of now r ≡ id_of t r) → CallFitsIn (id_of now session) b
    → SessionsFit now (slice_set sessions session b)
sessions-set t now sessions session a b fit at same new = one-set (λ r c. CallFitsIn (id_of t r) c) (λ r c. CallFitsIn (id_of now r) c) sessions session a b fit at (λ r c other was. subst (λ (id : ℕ). CallFitsIn id c) (sym (same r other)) was) new

pub sessions-more : (t : Table) (sessions : List State) → SessionsFit t sessions → SessionsFit (one_more t) (sessions ++ opened ∷ [])
sessions-more t sessions fit session b is = elim (append-finds sessions opened b session is) [
  | inl old ↦ subst (λ (id : ℕ). CallFitsIn id b) (sym (more-id t session)) (fit session b old)
  | inr last ↦ subst (CallFitsIn (id_of (one_more t) session)) last.1 tt
]

pub sessions-none : (t : Table) → SessionsFit t []
sessions-none t session b is = absurd (cc)

-- ---- stages at which no call is on a leaf

pub marks-fit : (stamp n id : ℕ) (b : State) → CallFitsAt (marks stamp n) id b
marks-fit stamp zero id b = tt
marks-fit stamp (suc n) id b = tt

pub stamps-fit : (stamps : CommitStamps) (n : ℕ) (after : Stage) (id : ℕ) (b : State) → MayStamp b.phase stamps → CallFitsAt after id b → CallFitsAt (stamps_then stamps n after) id b
stamps-fit stamps zero after id b may fit = fit
stamps-fit stamps (suc n) after id b may fit = may

pub orders-fit : (stamps : CommitStamps) (n : ℕ) (after : Stage) (id : ℕ) (b : State) → MayOrder b.phase → CallFitsAt after id b → CallFitsAt (orders stamps n after) id b
orders-fit stamps zero after id b may fit = fit
orders-fit stamps (suc n) after id b may fit = may

pub undoes-fit : (n id : ℕ) (b : State) → CallFitsAt (undoes n) id b
undoes-fit zero id b = tt
undoes-fit (suc n) id b = tt

pub after-orders-fit : (p : Phase) (stamps : CommitStamps) (n id : ℕ) (b : State) → b.phase ≡ p → MayOrder p → CallFitsAt (after_orders p stamps n) id b
after-orders-fit (phase.Prepared at) stamps n id b is may = tt
after-orders-fit phase.Running stamps n id b is may = stamps-fit stamps n (stage.Decide stamps) id b (subst (λ (q : Phase). MayStamp q stamps) (sym is) tt) tt
after-orders-fit phase.Idle stamps n id b is may = absurd may
after-orders-fit phase.Failed stamps n id b is may = absurd may
after-orders-fit phase.Resolving stamps n id b is may = absurd may
after-orders-fit phase.Leaving stamps n id b is may = absurd may

pub after-stamps-fit : (p : Phase) (stamps : CommitStamps) (id : ℕ) (b : State) → CallFitsAt (after_stamps p stamps) id b
after-stamps-fit phase.Running stamps id b = tt
after-stamps-fit phase.Idle stamps id b = tt
after-stamps-fit phase.Failed stamps id b = tt
after-stamps-fit (phase.Prepared at) stamps id b = tt
after-stamps-fit phase.Resolving stamps id b = tt
after-stamps-fit phase.Leaving stamps id b = tt

resolve-fit : (n id : ℕ) (b : State) → CallFitsAt (undo_or_resolve n) id b
resolve-fit zero id b = tt
resolve-fit (suc n) id b = tt

-- ---- the answer of a look

moves-fit : (id cursor : ℕ) (c : KeyCall) (target : Target) (answer : Answer (List ℕ)) (s : State) → CallFitsIn id (moves cursor c target answer s)
moves-fit id cursor c target (answers.Value v) s = tt
moves-fit id cursor c target (answers.Row key v) s = tt
moves-fit id cursor c target (answers.Refused refusal.NotFound) s = tt
moves-fit id cursor c target answer s = tt

pub answered-fits : (id : ℕ) (c : KeyCall) (target : Target) (answer : Answer (List ℕ)) (s : State) → CallFitsIn id (answered c target answer s)
answered-fits id c target answer s = by (cursor_in c) where
  by : (o : Option ℕ) → CallFitsIn id (of_some (clears c target answer s) (λ cursor. moves cursor c target answer s) o)
  by None = tt
  by (Some cursor) = moves-fit id cursor c target answer s

-- ---- the start of a call

first-mark-fits : (p : Phase) (stamp n id : ℕ) (b : State) → CallFitsAt (first_mark p stamp n) id b
first-mark-fits phase.Running stamp n id b = marks-fit stamp n id b
first-mark-fits phase.Idle stamp n id b = tt
first-mark-fits phase.Failed stamp n id b = tt
first-mark-fits (phase.Prepared at) stamp n id b = tt
first-mark-fits phase.Resolving stamp n id b = tt
first-mark-fits phase.Leaving stamp n id b = tt

first-order-fits : (p : Phase) (stamps : CommitStamps) (n id : ℕ) (b : State) → b.phase ≡ p → CallFitsAt (first_order p stamps n) id b
first-order-fits phase.Running stamps n id b is = orders-fit stamps n (stage.Decide stamps) id b (subst MayOrder (sym is) tt) tt
first-order-fits (phase.Prepared at) stamps n id b is = orders-fit stamps n (stage.Decide stamps) id b (subst MayOrder (sym is) tt) tt
first-order-fits phase.Idle stamps n id b is = tt
first-order-fits phase.Failed stamps n id b is = tt
first-order-fits phase.Resolving stamps n id b is = tt
first-order-fits phase.Leaving stamps n id b is = tt

first-undo-fits : (p : Phase) (n id : ℕ) (b : State) → CallFitsAt (first_undo p n) id b
first-undo-fits phase.Running n id b = resolve-fit n id b
first-undo-fits phase.Failed n id b = resolve-fit n id b
first-undo-fits phase.Idle n id b = tt
first-undo-fits (phase.Prepared at) n id b = tt
first-undo-fits phase.Resolving n id b = tt
first-undo-fits phase.Leaving n id b = tt

begun-fits : (id : ℕ) (asked : SessionCall) (s s' : State) → StartsAt asked s s' → CallFitsIn id s'
begun-fits id (call.Begin read) s s' is = subst (CallFitsIn id) (sym is) tt
begun-fits id (call.Get table key) s s' is = subst (CallFitsIn id) (sym is) tt
begun-fits id (call.Put table key value demand) s s' is = subst (CallFitsIn id) (sym is) tt
begun-fits id (call.Remove table key) s s' is = subst (CallFitsIn id) (sym is) tt
begun-fits id (call.Seek cursor table key) s s' is = subst (CallFitsIn id) (sym is) tt
begun-fits id (call.Step cursor table way) s s' is = subst (CallFitsIn id) (sym is) tt
begun-fits id (call.Reset cursor) s s' is = subst (CallFitsIn id) (sym is) tt
begun-fits id (call.Prepare stamp) s s' is = subst (CallFitsIn id) (sym is.state) (first-mark-fits s.phase stamp (length s.written) id _)
begun-fits id (call.Commit commit durable) s s' is = subst (CallFitsIn id) (sym is.state) (first-order-fits s.phase _ (length s.written) id _ refl)
begun-fits id call.Rollback s s' is = subst (CallFitsIn id) (sym is.state) (first-undo-fits s.phase (length s.written) id _)

pub start-fits : (id : ℕ) (asked : SessionCall) (s s' : State) (told : Reply) → Starts asked s told s' → CallFitsIn id s → CallFitsIn id s'
start-fits id asked s s' told starts fit = by s.stage starts where
  by : (g : Stage) → StartsIn g asked s told s' → CallFitsIn id s'
  by stage.Rest is = begun-fits id asked s s' is.1
  by _ is = subst (CallFitsIn id) (sym is.1) fit

-- ---- words

pub loaded-fits : (id seen : ℕ) (s : State) → CallFitsIn id s → CallFitsIn id (loaded seen s)
loaded-fits id seen s fit = by s.stage fit where
  at-word : (c : KeyCall) (target : Target) (b : Bool) → KeyCallFits c id s → CallFitsIn id (if b then at_stage (stage.Look c target) s else clears c target (answers.Refused (refusal.Again seen)) s)
  at-word c target true here = here
  at-word c target false here = tt

  by : (g : Stage) → CallFitsAt g id s → CallFitsIn id (loaded_at g seen s)
  by (stage.Validate c target) here = at-word c target (seen == target.word) here
  by _ here = fit

pub stored-fits : (id : ℕ) (s : State) → CallFitsIn id s → CallFitsIn id (stored s).1
stored-fits id s fit = by s.stage fit where
  resets : (cursor : ℕ) (o : Option Invalid) → CallFitsIn id (of_some (reset cursor s) (λ reason. refuses (refusal.Invalid reason) s) o).1
  resets cursor None = tt
  resets cursor (Some reason) = tt

  unpins : (b : State) (o : Option ℕ) → CallFitsIn id (of_some {A = ℕ} {B = Reply × State} (ends b) (λ cursor. (reply.More, at_stage (stage.Unpin cursor) b)) o).1
  unpins b None = tt
  unpins b (Some cursor) = tt

  by : (g : Stage) → CallFitsAt g id s → CallFitsIn id (stored_at g s).1
  by (stage.Publish c target) here = here
  by (stage.ClearCursor c target) here = tt
  by (stage.Clear c target) here = tt
  by (stage.Reset cursor) here = resets cursor (unless_running s.phase)
  by (stage.Unpin cursor) here = unpins (unpinned_in cursor s) (first_pinned (unpinned_in cursor s).cursors)
  by _ here = fit

-- a call that is kept from its leaf
pub kept-out-fits : (id : ℕ) (r : Refusal) (s : State) → CallFitsIn id s → CallFitsIn id (kept_out r s)
kept-out-fits id r s fit = by s.stage where
  by : (g : Stage) → CallFitsIn id (kept_out_at g r s)
  by (stage.Fill c wanted) = tt
  by _ = fit

-- ---- the hub

-- a call at a leaf
leaf-fits : (id : ℕ) (s : State) (c : KeyCall) (l : Leaf) → KeyCallFits c id s → CallFitsIn id (at_stage (stage_for c l) s)
leaf-fits id s c l fit = by (target_in l) where
  by : (o : Option Target) → CallFitsIn id (at_stage (stage_by c l o) s)
  by None = fit
  by (Some target) = fit

-- what an event leaves of the names and of the sessions; the stamps stay
pub record HubFits (h : Hub) (session : ℕ) (made : Made) : Type 0 where
  pub table : TableFits h.txns made.1.0.txns session
  pub call : CallFitsIn (id_of made.1.0.txns session) made.1.1
  pub stamps : made.1.0.stamps ≡ h.stamps

finished-fits : (id : ℕ) (answer : Answer (List ℕ)) (s : State) → CallFitsIn id (finished answer s).1
finished-fits id answer s = by (first_pinned s.cursors) where
  by : (o : Option ℕ) → CallFitsIn id (of_some {A = ℕ} {B = Reply × State} (reply.Answer answer, at_stage stage.Rest (forgotten s)) (λ cursor. (reply.More, record (forgotten s) { stage = stage.Unpin cursor; answer = answer })) o).1
  by None = tt
  by (Some cursor) = tt

not-longer : (most n : ℕ) → nat_lt most n ≡ false → n ≤ most
not-longer most n isnt = let least = ltb-false most n isnt in omega arith

-- where no check holds
items-pass : (name key value : Bool) (x y z : Invalid) → first_of ((name, x) ∷ ((key, y) ∷ ((value, z) ∷ []))) ≡ None → (key ≡ false) × (value ≡ false)
items-pass true key value x y z is = absurd (cc)
items-pass false true value x y z is = absurd (cc)
items-pass false false true x y z is = absurd (cc)
items-pass false false false x y z is = (refl, refl)

items-fit : (s : State) → first_of (item_checks s) ≡ None → ItemsFit s
items-fit s is = let passed = items-pass _ (nat_lt KEY_MAX (length s.key)) (nat_lt VALUE_MAX (length s.value)) _ _ _ is in (not-longer KEY_MAX (length s.key) passed.0, not-longer VALUE_MAX (length s.value) passed.1)

-- where a prepared transaction may be committed, the fourth rule does not hold
fourth-passes : (a b c d : Bool) (w x y z : Invalid) (rules : List (Bool × Invalid)) (u : Unit {0}) → answer_by ((a, w) ∷ ((b, x) ∷ ((c, y) ∷ ((d, z) ∷ rules)))) ≡ Ok u → d ≡ false
fourth-passes true b c d w x y z rules u is = absurd (cc)
fourth-passes false true c d w x y z rules u is = absurd (cc)
fourth-passes false false true d w x y z rules u is = absurd (cc)
fourth-passes false false false true w x y z rules u is = absurd (cc)
fourth-passes false false false false w x y z rules u is = refl

in-order : (oldest stable at : ℕ) (stamps : CommitStamps) (u : Unit {0}) → answer_by (resolve_rules oldest stable at stamps.commit stamps.durable stamps.prev) ≡ Ok u → MayStamp phase.Resolving stamps
in-order oldest stable at stamps u is = not-longer durable commit (fourth-passes (is_zero stamps.commit || is_zero stamps.durable) (commit == 0) (nat_lt commit at) (nat_lt durable commit)
    invalid.ZeroStamp invalid.NoCommitStamp (invalid.BeforePrepare commit at) (invalid.DurableBeforeCommit durable commit)
    ((nat_lt durable oldest, invalid.BeforeOldest durable oldest) ∷ ((nat_le durable stable, invalid.NotAfterStable durable stable) ∷ order_rule oldest commit stamps.prev)) u is) where
      commit : ℕ
      commit = stamp_of stamps.commit

      durable : ℕ
      durable = or_stamp (stamp_of stamps.durable) (stamp_of stamps.commit)

-- a write that does not draw an id has one
has-drawn : (writes : Bool) (id : ℕ) → (writes && (id == 0)) ≡ false → writes ≡ true → 1 ≤ id
has-drawn true zero isnt is = absurd (cc)
has-drawn true (suc n) isnt is = omega arith
has-drawn false id isnt is = absurd (cc)

module _ (h : Hub) (session : ℕ) (names : NamesFit h.txns) (inside : session < length h.txns.sessions) where
  same-table : TableFits h.txns h.txns session
  same-table = record { names = names; others = λ r other. refl }

  -- the hub stays
  stays : (told : Reply) (b : State) → CallFitsIn (id_of h.txns session) b → HubFits h session (beside h (told, b))
  stays told b fit = record { table = same-table; call = fit; stamps = refl }

  -- the table has the session as it is now
  sets : (now : Table) (told : Reply) (b : State) → TableFits h.txns now session → CallFitsIn (id_of now session) b → HubFits h session (with_txns h now (told, b))
  sets now told b table fit = record { table = table; call = fit; stamps = refl }

  by-option : {A : Type 0} (go : Made) (f : A → Made) (o : Option A) → HubFits h session go → ((a : A) → HubFits h session (f a)) → HubFits h session (of_some go f o)
  by-option go f None it other = it
  by-option go f (Some a) it other = other a

  refused-fits : (s : State) (reason : Invalid) → HubFits h session (refuses_as reason h s)
  refused-fits s reason = stays (reply.Answer (answers.Refused (refusal.Invalid reason))) (at_stage stage.Rest s) tt

  panics-fit : (s : State) (fault : Fault) → HubFits h session (beside h (refuses (refusal.Panic fault) s))
  panics-fit s fault = stays (reply.Answer (answers.Refused (refusal.Panic fault))) (at_stage stage.Rest s) tt

  ended-fits : (answer : Answer (List ℕ)) (s : State) → HubFits h session (with_txns h (ended h.txns session) (finished answer s))
  ended-fits answer s = sets (ended h.txns session) (finished answer s).0 (finished answer s).1 (ended-names h.txns session names) (finished-fits (id_of (ended h.txns session) session) answer s)

  leaves-fit : (n : ℕ) (answer : Answer (List ℕ)) (s : State) → HubFits h session (leaves_with n answer h session s)
  leaves-fit zero answer s = ended-fits answer s
  leaves-fit (suc n) answer s = stays reply.More (leaves answer s) (undoes-fit (length s.written) (id_of h.txns session) (leaves answer s))

  begins-fit : (s : State) (read : Option ℕ) (p : Phase) → HubFits h session (begins_in p h session s read)
  begins-fit s read phase.Idle = by (answer_by (begin_rules h.stamps.oldest read)) where
    by : (r : Result (Unit {0}) Invalid) → HubFits h session (begins_by r h session s read)
    by (Ok u) = sets (begun h.txns session (stamp_of read)) (reply.Answer answers.Done) (at_stage stage.Rest (record s { phase = phase.Running })) (begun-names h.txns session names (stamp_of read)) tt
    by (Err reason) = refused-fits s reason
  begins-fit s read phase.Running = refused-fits s _
  begins-fit s read phase.Failed = refused-fits s _
  begins-fit s read (phase.Prepared at) = refused-fits s _
  begins-fit s read phase.Resolving = refused-fits s _
  begins-fit s read phase.Leaving = refused-fits s _

  draws-fit : (s : State) (c : KeyCall) (l : Leaf) → ItemsFit s → HubFits h session (finds_drawn h session s (stage_for c l))
  draws-fit s c l fit = by (nat_lt NUMBER_MAX h.txns.next) refl where
    by : (b : Bool) → nat_lt NUMBER_MAX h.txns.next ≡ b
        → HubFits h session (if b then beside h (refuses (refusal.Limit limit.Ids) s) else with_txns h (drawn h.txns session) (reply.More, at_stage (stage_for c l) s))
    by true is = stays (reply.Answer (answers.Refused (refusal.Limit limit.Ids))) (at_stage stage.Rest s) tt
    by false is = sets (drawn h.txns session) reply.More (at_stage (stage_for c l) s) (drawn-names h.txns session names (not-longer NUMBER_MAX h.txns.next is))
        (leaf-fits (id_of (drawn h.txns session) session) s c l (fit, (λ writes. drawn-some h.txns session names inside)))

  target-fits : (s : State) (c : KeyCall) (o : Option Leaf) → ItemsFit s → HubFits h session (finds_at h session s c (option_map (stage_for c) o))
  target-fits s c None fit = stays (reply.Answer (answers.Refused refusal.NoTable)) (at_stage stage.Rest s) tt
  target-fits s c (Some l) fit = by (draws c h session) refl where
    by : (b : Bool) → draws c h session ≡ b → HubFits h session (if b then finds_drawn h session s (stage_for c l) else beside h (reply.More, at_stage (stage_for c l) s))
    by true is = draws-fit s c l fit
    by false is = stays reply.More (at_stage (stage_for c l) s) (leaf-fits (id_of h.txns session) s c l (fit, has-drawn (is_write c) (id_of h.txns session) is))

  finds-fit : (s : State) (c : KeyCall) → HubFits h session (find_made h session s c)
  finds-fit s c = by-option (of_some (finds h session s c) (λ reason. refuses_as reason h s) (unless_running s.phase)) _ h.fault
      (by-option (finds h session s c) (λ reason. refuses_as reason h s) (unless_running s.phase) (by-checks (first_of (item_checks s)) refl) (refused-fits s))
      (panics-fit s) where
        by-checks : (o : Option Invalid) → first_of (item_checks s) ≡ o → HubFits h session (of_some (finds_at h session s c (stage_of h.tables h.dir.leaves c s)) (λ reason. refuses_as reason h s) o)
        by-checks None is = target-fits s c (option_and_then (leaf_for h.dir.leaves c s) (option_and_then (λ place. slice_get h.tables.tables place) (place_of s.name h.tables.tables))) (items-fit s is)
        by-checks (Some reason) is = refused-fits s reason

  prepares-fit : (s : State) (stamp : ℕ) (r : Result (Unit {0}) Invalid) → HubFits h session (prepares_by r h session s stamp)
  prepares-fit s stamp (Ok u) = sets (released_in h.txns session (phase.Prepared stamp)) (reply.Answer answers.Done) (at_stage stage.Rest (record s { phase = phase.Prepared stamp })) (released-names h.txns session names (phase.Prepared stamp)) tt
  prepares-fit s stamp (Err reason) = refused-fits s reason

  done-fit : (s : State) → HubFits h session (done h session s)
  done-fit s = ended-fits s.answer (without_answer s)

  decides-fit : (s : State) (stamps : CommitStamps) (p : Phase) → HubFits h session (decides_in p h session s stamps)
  decides-fit s stamps phase.Idle = refused-fits s _
  decides-fit s stamps phase.Running = by (answer_by (commit_rules h.stamps.oldest h.stamps.stable stamps.commit stamps.durable stamps.prev)) where
    by : (r : Result (Unit {0}) Invalid) → HubFits h session (decides_running r h session s)
    by (Ok u) = sets (released_in h.txns session phase.Idle) (finished answers.Done s).0 (finished answers.Done s).1 (released-names h.txns session names phase.Idle) (finished-fits (id_of (released_in h.txns session phase.Idle) session) answers.Done s)
    by (Err reason) = leaves-fit (length s.written) _ s
  decides-fit s stamps phase.Failed = refused-fits s _
  decides-fit s stamps (phase.Prepared at) = by (answer_by (resolve_rules h.stamps.oldest h.stamps.stable at stamps.commit stamps.durable stamps.prev)) refl where
    by : (r : Result (Unit {0}) Invalid) → answer_by (resolve_rules h.stamps.oldest h.stamps.stable at stamps.commit stamps.durable stamps.prev) ≡ r → HubFits h session (decides_prepared r h session s stamps)
    by (Ok u) is = sets (in_phase h.txns session phase.Resolving) reply.More (record s { phase = phase.Resolving; stage = stamps_then stamps (length s.written) stage.Done; answer = answers.Done }) (phase-names h.txns session names phase.Resolving)
        (stamps-fit stamps (length s.written) stage.Done (id_of (in_phase h.txns session phase.Resolving) session) (record s { phase = phase.Resolving; stage = stamps_then stamps (length s.written) stage.Done; answer = answers.Done })
        (in-order h.stamps.oldest h.stamps.stable at stamps u is) tt)
    by (Err reason) is = refused-fits s reason
  decides-fit s stamps phase.Resolving = done-fit s
  decides-fit s stamps phase.Leaving = done-fit s

  resolves-fit : (s : State) (p : Phase) → HubFits h session (resolves_in p h session s)
  resolves-fit s phase.Idle = refused-fits s _
  resolves-fit s phase.Running = leaves-fit (length s.written) _ s
  resolves-fit s phase.Failed = leaves-fit (length s.written) _ s
  resolves-fit s (phase.Prepared at) = sets (in_phase h.txns session phase.Resolving) reply.More (record s { phase = phase.Resolving; stage = undoes (length s.written); answer = answers.Done }) (phase-names h.txns session names phase.Resolving)
      (undoes-fit (length s.written) (id_of (in_phase h.txns session phase.Resolving) session) (record s { phase = phase.Resolving; stage = undoes (length s.written); answer = answers.Done }))
  resolves-fit s phase.Resolving = done-fit s
  resolves-fit s phase.Leaving = done-fit s

  done-fits : (s : State) (p : Phase) → HubFits h session (done_in p h session s)
  done-fits s phase.Idle = refused-fits s _
  done-fits s (phase.Prepared at) = refused-fits s _
  done-fits s phase.Running = done-fit s
  done-fits s phase.Failed = done-fit s
  done-fits s phase.Resolving = done-fit s
  done-fits s phase.Leaving = done-fit s

  pub hub-fits : (s : State) → CallFitsIn (id_of h.txns session) s → HubFits h session (hub_made h session s)
  hub-fits s fit = by s.stage fit where
    passes : (c : KeyCall) (target : Target) (o : Option Leaf) → KeyCallFits c (id_of h.txns session) s → CallFitsIn (id_of h.txns session) (passes_to (option_map (stage_for c) o) c target s)
    passes c target None here = answered-fits (id_of h.txns session) c target _ s
    passes c target (Some l) here = leaf-fits (id_of h.txns session) s c l here

    fills : (c : KeyCall) (o : Option Leaf) → KeyCallFits c (id_of h.txns session) s → CallFitsIn (id_of h.txns session) (fills_to (option_map (stage_for c) o) c s)
    fills c None here = tt
    fills c (Some l) here = leaf-fits (id_of h.txns session) s c l here

    by : (g : Stage) → CallFitsAt g (id_of h.txns session) s → HubFits h session (hub_made_at g h session s)
    by (stage.Begin read) here = by-option (begins_in s.phase h session s read) _ h.fault (begins-fit s read s.phase) (panics-fit s)
    by (stage.Find c) here = finds-fit s c
    by (stage.Fill c wanted) here = stays reply.More (fills_to (option_map (stage_for c) (leaf_named wanted.leaf h.dir.leaves)) c s) (fills c (leaf_named wanted.leaf h.dir.leaves) here)
    by (stage.Pass c target) here = stays reply.More (passes_to (option_map (stage_for c) (next_for c target.leaf h.dir.leaves)) c target s) (passes c target (next_for c target.leaf h.dir.leaves) here)
    by (stage.History c target) here = stays reply.More (answered c target (history_answer h.fault) s) (answered-fits (id_of h.txns session) c target (history_answer h.fault) s)
    by (stage.Release stamp) here = by-option (of_some (prepares_by (answer_by (prepare_rules h.stamps.stable stamp)) h session s stamp) (λ reason. refuses_as reason h s) (unless_running s.phase)) _ h.fault
        (by-option (prepares_by (answer_by (prepare_rules h.stamps.stable stamp)) h session s stamp) (λ reason. refuses_as reason h s) (unless_running s.phase)
        (prepares-fit s stamp (answer_by (prepare_rules h.stamps.stable stamp))) (refused-fits s)) (panics-fit s)
    by (stage.Decide stamps) here = by-option (decides_in s.phase h session s stamps) _ h.fault (decides-fit s stamps s.phase) (panics-fit s)
    by stage.Resolve here = by-option (resolves_in s.phase h session s) _ h.fault (resolves-fit s s.phase) (panics-fit s)
    by stage.Done here = by-option (done_in s.phase h session s) _ h.fault (done-fits s s.phase) (panics-fit s)
    by _ here = stays reply.More s fit
