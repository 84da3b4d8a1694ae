-- The event that finds the table of a call.
use Rattle.std.proofs.Common.{◌≡◌, ◌⊎◌, ◌<◌, ℕ, refl, ap, sym, ◌∙◌, Bool, true, false, ◌&&◌, [], length, inl, inr, subst, arith}
use Rattle.std.specs.Prelude.{Option, Some, None, option_map, slice_get, nat_lt, ◌==◌, if◌then◌else◌}
use Rattle.std.proofs.lemmas.List.{get_or-set_same}
use Rattle.failure.specs.declared.Fault.{Fault}
use Rattle.limits.specs.declared.TheConstants.{NUMBER_MAX}
use Rattle.wt_code.specs.declared.answers.Answer.TheVariants as answers
use Rattle.wt_code.specs.declared.refusals.Refusal.{Refusal}
use Rattle.wt_code.specs.declared.refusals.Refusal.TheVariants as told
use Rattle.wt_code.specs.declared.refusals.Invalid.{Invalid}
use Rattle.wt_code.specs.declared.refusals.Invalid.TheVariants as why
use Rattle.wt_code.specs.declared.refusals.Limit.TheVariants as counted
use Rattle.kv_model.specs.History.{Table as KnownTable, tables, named}
use Rattle.kv_model.specs.Machine.{Machine, Transaction, Phase as ModelPhase, Running, Failed, Prepared, Resolving, Leaving, transaction_of, cursors_of, of_some, Event, DrawId, Nothing, after}
use Rattle.kv_model.specs.Allowed.{Allowed}
use Rattle.kv_model.specs.Refusals.{first_of}
use Rattle.kv_model.specs.Decisions.{Outcome, Done, refused, invalid, in_state, decision}
use Rattle.txn_table.specs.declared.phase.Phase.{Phase}
use Rattle.txn_table.specs.declared.phase.Phase.TheVariants as phase
use Rattle.txn_table.specs.SessionData.{SessionData, phase_in}
use Rattle.txn_table.specs.Tabled.{drawn}
use Rattle.txn_table.proofs.Standing.{calls-stand, state-at}
use Rattle.call_steps.specs.declared.reply.Reply.TheVariants as reply
use Rattle.call_steps.specs.declared.stage.KeyCall.{KeyCall}
use Rattle.call_steps.specs.declared.stage.Stage.{Stage}
use Rattle.call_steps.specs.declared.stage.Stage.TheVariants as stage
use Rattle.call_steps.specs.Stages.{is_write}
use Rattle.call_steps.specs.HubEvents.{beside, with_txns, item_checks, finds_drawn, finds_at, finds, find_made, refuses_as, hub_made_at}
use Rattle.call_steps.specs.State.{State, at_stage, refuses}
use Rattle.call_steps.specs.Tables.{stage_for, stage_of}
use Rattle.call_steps.specs.Words.{unless_running}
use Rattle.update_chain.specs.EventLaws.{ChainsGoOn}
use Rattle.engine_world.specs.Worlds.{World, Resting}
use Rattle.engine_world.specs.Doings.{call_in, doing_in, find_left}
use Rattle.tree_dir.specs.declared.leaf.Leaf.{Leaf}
use Rattle.engine_world.specs.Steps.{FoundBy, GoesOn}
use Rattle.engine_world.specs.Leaves.{AreNoted}
use Rattle.engine_world.specs.Stages.{EndsOnlyDown, IsSought, NamesOnly}
use Rattle.engine_world.specs.Stands.{Engine, Stands, SessionStands}
use Rattle.engine_world.specs.Laws.{FindsGo, IsFind}
use Rattle.engine_world.proofs.Moves.{alone-leads}
use Rattle.engine_world.proofs.HubMoves.{Goes, decided-up, decided-down, none-there, in-phase, idle-none, phase-there, stage-stands, goes-from, refused-goes, leaves-go-on, SetsSeat, seat-now, seats-opened, seat-leads}
use Rattle.engine_world.proofs.FindChecks.{request_in, judged_in, draw_by, goes_in, named_by, named_then, checked_then, judged-as, off-page, checks-agree, NotThere, StandsAt, find-name, has-id, has-none, drawn_seat, drawn-seat, call-kept, judges, found-refused, found-done, placed-less}
use Rattle.engine_world.proofs.AtLeaves.{PlacesAt, places-at, stands-for}
use Rattle.engine_world.proofs.Seeking.{begins-sought}
use Rattle.engine_world.proofs.InPlace.{SessionInPlace}

module _ (law : ChainsGoOn) (e : Engine) (w : World) (session : ℕ) (a : State) (call : KeyCall) (st : Stands e w) (at : slice_get e.sessions session ≡ Some a) (is : a.stage ≡ stage.Find call) where
  mine : SessionStands w.machine e.hub e.pieces session a
  mine = st.sessions session a at

  ends : EndsOnlyDown w.machine session
  ends = (stage-stands e w session a (stage.Find call) st at is).0

  only : NamesOnly call a
  only = (stage-stands e w session a (stage.Find call) st at is).1

  inside : session < length w.machine.sessions
  inside = subst (λ n. session < n) st.txns.count mine.seated.opened

  refuses-by : (r : Refusal) → decision w.machine session (request_in call a) ≡ refused r → Goes e w session (beside e.hub (refuses r a))
  refuses-by r decided = refused-goes e w session a (stage.Find call) r st at is ends
      (inr (judges call a w.machine session find_left (record { told = reply.Answer (answers.Refused r); machine = w.machine; doing = Resting })
      (found-refused (decision w.machine session (request_in call a)) r w.machine (call_in call a) a.name find_left decided)))

  -- ---- the table is found

  abbrev Found : Type 0
  Found = StandsAt e.hub.tables e.hub.dir.leaves w.machine call a

  -- the call goes on to its leaf
  abbrev on_leaf : Leaf → State
  on_leaf l = at_stage (stage_for call l) a

  found-goes : (event : Event) (s : Found) → tables (after w.machine event).history ≡ tables w.machine.history → decision w.machine session (request_in call a) ≡ (Done, event)
      → GoesOn (w.again session) (doing_in e.hub.dir.leaves session a) w.machine session (record { told = reply.More; machine = after w.machine event; doing = doing_in e.hub.dir.leaves session (on_leaf s.leaf) })
  found-goes event s kept decided = goes-from (w.again session) e.hub.dir.leaves session a (stage.Find call) w.machine (record { told = reply.More; machine = after w.machine event; doing = doing_in e.hub.dir.leaves session (on_leaf s.leaf) }) is
      (inr (judges call a w.machine session find_left (record { told = reply.More; machine = after w.machine event; doing = doing_in e.hub.dir.leaves session (on_leaf s.leaf) })
      (subst (λ d. FoundBy (decision w.machine session (request_in call a)).0 (decision w.machine session (request_in call a)).1 w.machine (call_in call a) a.name find_left (record { told = reply.More; machine = after w.machine event; doing = d })) (sym does.is)
      (found-done (decision w.machine session (request_in call a)) event w.machine (call_in call a) (call_in call (on_leaf s.leaf)) a.name s.of s.leaf.table
      does.left decided (call-kept call (stage_for call s.leaf) a) (ap (named a.name) kept ∙ s.table) s.number (let few = placed-less call s.leaf.table s.leaf.id e.hub.dir.leaves st.dir.few in let most = does.most in omega (arith, few, most)))))) where
        does : PlacesAt call s.leaf e.hub.dir.leaves session (on_leaf s.leaf)
        does = places-at call s.leaf e.hub.dir.leaves session a

  -- the cursors are those of the machine after it
  is-sought : (m : Machine) (s : Found) → cursors_of m session ≡ cursors_of w.machine session → IsSought m e.hub.dir.leaves session (on_leaf s.leaf) call s.leaf
  is-sought m s same = begins-sought m e.hub.dir session a (stage_for call s.leaf) call s.leaf st.dir (mine.cursors ∙ sym same) s.sought

  -- without an id more
  quiet : (t : Transaction) (s : Found) → transaction_of w.machine session ≡ Some t → t.phase ≡ Running → (is_write call && (t.id == 0)) ≡ false
      → decision w.machine session (request_in call a) ≡ (Done, Nothing) → Goes e w session (beside e.hub (reply.More, on_leaf s.leaf))
  quiet t s there running none decided = alone-leads e w session a (on_leaf s.leaf) e.hazards reply.More st at (found-goes Nothing s refl decided) (record {
    phase = mine.phase;
    seated = record { opened = mine.seated.opened; phase = mine.seated.phase };
    cursors = mine.cursors;
    noted = mine.noted;
    stage = stands-for w.machine e.hub.dir.leaves e.pieces session a call s.leaf s.there (t, there, (running, has-id (is_write call) t.id none)) (is-sought w.machine s refl);
  })

  drawn-stands : (t : Transaction) (s : Found) → transaction_of w.machine session ≡ Some t → t.phase ≡ Running
      → SessionInPlace (after w.machine (DrawId session)) (record e.hub { txns = drawn e.hub.txns session }) e.pieces session (on_leaf s.leaf)
  drawn-stands t s there running = record {
    phase = mine.phase ∙ (ap phase-with there ∙ sym (ap phase-with now));
    seated = record {
      opened = subst (λ n. session < n) (sym (seats-opened e.hub.txns (drawn e.hub.txns session) session (drawn_seat e.hub.txns session) seat)) mine.seated.opened;
      phase = ap (λ (x : SessionData). x.phase) (seat-now e.hub.txns (drawn e.hub.txns session) session (drawn_seat e.hub.txns session) seat mine.seated.opened) ∙ mine.seated.phase;
    };
    cursors = mine.cursors;
    noted = subst noted-with (sym now) (subst noted-with there mine.noted);
    stage = stands-for (after w.machine (DrawId session)) e.hub.dir.leaves e.pieces session a call s.leaf s.there (with-id t, now, (running, λ write. st.valid.next)) (is-sought (after w.machine (DrawId session)) s refl);
  } where
    with-id : Transaction → Transaction
    with-id t = record t { id = w.machine.next }

    now : transaction_of (after w.machine (DrawId session)) session ≡ Some (with-id t)
    now = get_or-set_same w.machine.sessions session (option_map with-id (transaction_of w.machine session)) None inside ∙ ap (λ (o : Option Transaction). option_map with-id o) there

    seat : SetsSeat e.hub.txns (drawn e.hub.txns session) session (drawn_seat e.hub.txns session)
    seat = drawn-seat e.hub.txns session

    phase-with : Option Transaction → Option ModelPhase
    phase-with o = option_map (λ (t : Transaction). t.phase) o

    noted-with : Option Transaction → Type 0
    noted-with o = AreNoted e.hub.dir.leaves e.pieces (of_some [] (λ (t : Transaction). t.writes) o) a.written

  -- with an id that it draws
  drawing : (t : Transaction) (s : Found) → transaction_of w.machine session ≡ Some t → t.phase ≡ Running → t.id ≡ 0
      → decision w.machine session (request_in call a) ≡ (Done, DrawId session) → Goes e w session (with_txns e.hub (drawn e.hub.txns session) (reply.More, on_leaf s.leaf))
  drawing t s there running none decided = seat-leads e w session a (on_leaf s.leaf) (drawn e.hub.txns session) (drawn_seat e.hub.txns session) (DrawId session) reply.More st at
      may refl (drawn-seat e.hub.txns session) ((calls-stand e.hub.txns w.machine st.valid st.txns).draws session may) refl
      (leaves-go-on law w.machine (DrawId session) w.shelf w.records e.hub.dir.leaves e.pieces e.states st.valid may (λ table key. tt) st.leaves)
      (found-goes (DrawId session) s refl decided) (drawn-stands t s there running) where
        may : Allowed w.machine (DrawId session)
        may = (t, there, (running, none))

  -- ---- by what is found

  by-full : (t : Transaction) (s : Found) → transaction_of w.machine session ≡ Some t → t.phase ≡ Running → (is_write call && (t.id == 0)) ≡ true
      → (full : Bool) → nat_lt NUMBER_MAX w.machine.next ≡ full → decision w.machine session (request_in call a) ≡ draw_by true full session
      → Goes e w session (if full then beside e.hub (refuses (told.Limit counted.Ids) a) else with_txns e.hub (drawn e.hub.txns session) (reply.More, on_leaf s.leaf))
  by-full t s there running draw true full decided = refuses-by (told.Limit counted.Ids) decided
  by-full t s there running draw false few decided = drawing t s there running (has-none (is_write call) t.id draw) decided

  by-draw : (t : Transaction) (s : Found) → transaction_of w.machine session ≡ Some t → t.phase ≡ Running → (draw : Bool) → (is_write call && (t.id == 0)) ≡ draw
      → decision w.machine session (request_in call a) ≡ draw_by draw (nat_lt NUMBER_MAX w.machine.next) session
      → Goes e w session (if draw then finds_drawn e.hub session a (stage_for call s.leaf) else beside e.hub (reply.More, on_leaf s.leaf))
  by-draw t s there running false none decided = quiet t s there running none decided
  by-draw t s there running true draw decided =
      subst (λ n. Goes e w session (if nat_lt NUMBER_MAX n then beside e.hub (refuses (told.Limit counted.Ids) a) else with_txns e.hub (drawn e.hub.txns session) (reply.More, on_leaf s.leaf)))
      (sym st.txns.next) (by-full t s there running draw (nat_lt NUMBER_MAX w.machine.next) refl decided)

  -- the id that the table has is the transaction's
  finds-it : (t : Transaction) (s : Found) → transaction_of w.machine session ≡ Some t → t.phase ≡ Running
      → decision w.machine session (request_in call a) ≡ goes_in call w.machine session t → Goes e w session (finds_at e.hub session a call (Some (stage_for call s.leaf)))
  finds-it t s there running decided =
      subst (λ n. Goes e w session (if is_write call && (n == 0) then finds_drawn e.hub session a (stage_for call s.leaf) else beside e.hub (reply.More, on_leaf s.leaf)))
      (sym (state-at e.hub.txns w.machine session t st.txns there).id) (by-draw t s there running (is_write call && (t.id == 0)) refl decided)

  by-name : (t : Transaction) → transaction_of w.machine session ≡ Some t → t.phase ≡ Running → decision w.machine session (request_in call a) ≡ named_then w.machine a.name (goes_in call w.machine session t)
      → NotThere e.hub.tables e.hub.dir.leaves w.machine call a ⊎ Found → Goes e w session (finds_at e.hub session a call (stage_of e.hub.tables e.hub.dir.leaves call a))
  by-name t there running decided (inl none) = subst (λ o. Goes e w session (finds_at e.hub session a call o)) (sym none.to)
      (refuses-by told.NoTable (decided ∙ ap (λ (o : Option KnownTable). named_by o (goes_in call w.machine session t)) none.table))
  by-name t there running decided (inr s) = subst (λ o. Goes e w session (finds_at e.hub session a call o)) (sym s.to)
      (finds-it t s there running (decided ∙ ap (λ (o : Option KnownTable). named_by o (goes_in call w.machine session t)) s.table))

  by-check : (t : Transaction) → transaction_of w.machine session ≡ Some t → t.phase ≡ Running → (o : Option Invalid)
      → decision w.machine session (request_in call a) ≡ checked_then o (named_then w.machine a.name (goes_in call w.machine session t))
      → Goes e w session (of_some (finds_at e.hub session a call (stage_of e.hub.tables e.hub.dir.leaves call a)) (λ (reason : Invalid). refuses_as reason e.hub a) o)
  by-check t there running None decided = by-name t there running decided (find-name e.hub.tables e.hub.dir w.machine call a st.catalog st.made st.dir st.begun)
  by-check t there running (Some reason) decided = refuses-by (told.Invalid reason) decided

  decided-in : (t : Transaction) (p : ModelPhase) → w.machine.fault ≡ None → transaction_of w.machine session ≡ Some t → t.phase ≡ p
      → decision w.machine session (request_in call a) ≡ in_state p (judged_in call a w.machine session t)
  decided-in t p up there here = decided-up w.machine session (request_in call a) up
      ∙ (judged-as call a w.machine session ∙ in-phase w.machine session t p (judged_in call a w.machine session) there here)

  runs : (t : Transaction) → w.machine.fault ≡ None → transaction_of w.machine session ≡ Some t → t.phase ≡ Running → Goes e w session (finds e.hub session a call)
  runs t up there running = by-check t there running (first_of (item_checks a)) (decided-in t Running up there running ∙ checks-agree call a w.machine session t only)

  kept-out : (p : Phase) (q : ModelPhase) (reason : Invalid) → w.machine.fault ≡ None → a.phase ≡ p → phase_in p ≡ Some q → ((go : Outcome × Event) → in_state q go ≡ invalid reason)
      → Goes e w session (refuses_as reason e.hub a)
  kept-out p q reason up here to state = let t = phase-there w.machine e.hub e.pieces session a p q mine here to in
      refuses-by (told.Invalid reason) (decided-in t.0 q up t.1 t.2 ∙ state (judged_in call a w.machine session t.0))

  by-phase : w.machine.fault ≡ None → (p : Phase) → a.phase ≡ p → Goes e w session (of_some (finds e.hub session a call) (λ (reason : Invalid). refuses_as reason e.hub a) (unless_running p))
  by-phase up phase.Idle here = refuses-by (told.Invalid why.NoTxn) (decided-up w.machine session (request_in call a) up ∙ (judged-as call a w.machine session
      ∙ none-there w.machine session (λ t. in_state t.phase (judged_in call a w.machine session t)) (idle-none w.machine e.hub e.pieces session a mine here)))
  by-phase up phase.Running here = let t = phase-there w.machine e.hub e.pieces session a phase.Running Running mine here refl in runs t.0 up t.1 t.2
  by-phase up phase.Failed here = kept-out phase.Failed Failed why.FailedTxn up here refl (λ go. refl)
  by-phase up phase.Leaving here = kept-out phase.Leaving Leaving why.FailedTxn up here refl (λ go. refl)
  by-phase up (phase.Prepared stamp) here = kept-out (phase.Prepared stamp) (Prepared stamp) why.Prepared up here refl (λ go. refl)
  by-phase up phase.Resolving here = kept-out phase.Resolving Resolving why.Prepared up here refl (λ go. refl)

  by-fault : (f : Option Fault) → e.hub.fault ≡ f
      → Goes e w session (of_some (of_some (finds e.hub session a call) (λ (reason : Invalid). refuses_as reason e.hub a) (unless_running a.phase)) (λ (fault : Fault). beside e.hub (refuses (told.Panic fault) a)) f)
  by-fault None up = by-phase (sym st.fault ∙ up) a.phase refl
  by-fault (Some fault) down = refuses-by (told.Panic fault) (decided-down w.machine session (request_in call a) fault (sym st.fault ∙ down) (off-page call a w.machine session))

  find-goes : Goes e w session (find_made e.hub session a call)
  find-goes = by-fault e.hub.fault refl

pub finds-go : ChainsGoOn → FindsGo
finds-go law e w session a st at finds = by-stage a.stage refl finds where
  by-stage : (g : Stage) → a.stage ≡ g → IsFind g → Goes e w session (hub_made_at g e.hub session a)
  by-stage (stage.Find call) is finds = find-goes law e w session a call st at is
  by-stage _ is finds = absurd finds
