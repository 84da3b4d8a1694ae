-- The decision of a rollback.
use Rattle.std.proofs.Common.{◌≡◌, ◌≤◌, ◌+◌, ℕ, refl, ap, sym, ◌∙◌, true, false, length, inl, inr, subst, arith}
use Rattle.std.specs.Prelude.{Option, Some, None, slice_get}
use Rattle.failure.specs.declared.Fault.{Fault}
use Rattle.wt_code.specs.declared.answers.Answer.TheVariants as answers
use Rattle.wt_code.specs.declared.refusals.Invalid.TheVariants as why
use Rattle.wt_code.specs.declared.refusals.Refusal.{Refusal}
use Rattle.wt_code.specs.declared.refusals.Refusal.TheVariants as told
use Rattle.kv_model.specs.History.{Undo, tables}
use Rattle.kv_model.specs.Machine.{Machine, Transaction, Phase as ModelPhase, Running, Failed, Prepared, Resolving, Leaving, Event, StartLeaving, of_some, in_phase, appended, left, transaction_of, name_of, after}
use Rattle.kv_model.specs.Decisions.{Outcome, Done, refused, RollbackCall, decision, is_on_page, is_there, rollback_decision, undoes_first}
use Rattle.kv_model.specs.Reads.{IsEnding}
use Rattle.txn_table.specs.declared.phase.Phase.{Phase}
use Rattle.txn_table.specs.declared.phase.Phase.TheVariants as phase
use Rattle.txn_table.specs.Tabled.{Table, in_phase as put_in_phase}
use Rattle.txn_table.proofs.Standing.{calls-stand}
use Rattle.call_steps.specs.declared.reply.Reply.TheVariants as reply
use Rattle.call_steps.specs.declared.stage.Stage.{Stage}
use Rattle.call_steps.specs.declared.stage.Stage.TheVariants as stage
use Rattle.call_steps.specs.HubEvents.{IsSeated, beside, hub_made_at, known_phase, resolves_in}
use Rattle.call_steps.specs.Stages.{undoes}
use Rattle.call_steps.specs.State.{State, refuses}
use Rattle.update_chain.specs.EventLaws.{ChainsGoOn}
use Rattle.engine_world.specs.Doings.{doing_in, decide_left, done_left}
use Rattle.engine_world.specs.Laws.{ResolvesGo, IsResolve}
use Rattle.engine_world.specs.Stages.{EndsOnlyDown, ForTransaction, ResolvesStand, NoneStands}
use Rattle.engine_world.specs.Stands.{Engine, Stands, SessionStands}
use Rattle.engine_world.specs.Steps.{Made, EndsIn, GoesOn, SettledBy}
use Rattle.engine_world.specs.Worlds.{World, Ending}
use Rattle.engine_world.proofs.HubMoves.{Goes, SetsSeat, seat_in, seat-leads, stage-stands, refused-goes, refused-settled, doing-at, decided-up, decided-down, none-there, one-there, idle-none, phase-there, leaves-go-on}
use Rattle.engine_world.proofs.Deciding.{Settling, IsIn, in-set, phased-stands, seated-in, leave-is, tables-appended, phase-sets}
use Rattle.engine_world.proofs.Leaving.{running-leaves, failed-leaves, leaves-goes}
use Rattle.engine_world.proofs.Resolving.{resolving_at, undos-doing, undos-stage, none-stands}

resolve-stage : (g : Stage) → IsResolve g → g ≡ stage.Resolve
resolve-stage stage.Resolve is = refl
resolve-stage _ is = absurd is

-- a machine that is up has no transaction that a fault kept from its end
pub up-living : (m : Machine) (session : ℕ) (t : Transaction) (q : ModelPhase) → m.fault ≡ None → EndsOnlyDown m session → transaction_of m session ≡ Some t → t.phase ≡ q → IsEnding q → ⊥
up-living m session t q up ends there is ending = let down : true ≡ false = sym (ends t there (subst IsEnding (sym is) ending)) ∙ ap is_there up in absurd (cc)

-- without updates to take out it begins on the hub
undoes-none : (p : ModelPhase) (t : Transaction) → ResolvesStand p t → undoes_first p t.writes ≡ false
undoes-none Running t empty = ap (undoes_first Running) empty
undoes-none Failed t empty = ap (undoes_first Failed) empty
undoes-none (Prepared stamp) t any = refl
undoes-none Resolving t any = refl
undoes-none Leaving t any = refl

on-hub : (m : Machine) (session : ℕ) → ForTransaction m session (λ t. ResolvesStand t.phase t) → is_on_page m session RollbackCall ≡ false
on-hub m session stands = by-there (transaction_of m session) refl where
  by-there : (o : Option Transaction) → transaction_of m session ≡ o → of_some false (λ (t : Transaction). undoes_first t.phase t.writes) o ≡ false
  by-there None none = refl
  by-there (Some t) there = undoes-none t.phase t (stands t there)

-- the rollback of a prepared transaction
undo-goes : ChainsGoOn → (e : Engine) (w : World) (session stamp : ℕ) (a : State) (t : Transaction) → Stands e w → slice_get e.sessions session ≡ Some a → transaction_of w.machine session ≡ Some t → t.phase ≡ Prepared stamp
    → a.phase ≡ phase.Prepared stamp → Settling e.hub.dir.leaves w session a Done (StartLeaving session) → Goes e w session (resolves_in (phase.Prepared stamp) e.hub session a)
undo-goes law e w session stamp a t st at there is in_p settles =
    seat-leads e w session a b now (seat_in e.hub.txns session phase.Resolving) (StartLeaving session) reply.More st at tt refl sets
    ((calls-stand e.hub.txns w.machine st.valid st.txns).undoes session stamp (mine.seated.phase ∙ ap known_phase in_p))
    (ap (λ (m : Machine). tables m.history) after_is ∙ tables-appended t.writes (Undo (name_of w.machine t)) w.machine.history refl)
    (leaves-go-on law w.machine (StartLeaving session) w.shelf w.records e.hub.dir.leaves e.pieces e.states st.valid tt (λ table key. tt) st.leaves)
    (settles (record { told = reply.More; machine = next; doing = doing_in e.hub.dir.leaves session b }) (
      answers.Done,
      refl,
      subst (λ o. EndsIn o answers.Done next session (decide_left a) (record { told = reply.More; machine = next; doing = doing_in e.hub.dir.leaves session b })) (sym now_in.there)
          (inl (does.0, (let few = does.1 in omega arith), ap (λ d. record { told = reply.More; machine = next; doing = d }) does.2)),
    ))
    (phased-stands w.machine next e.hub now e.pieces session a b t Resolving mine there now_in seated refl refl refl
    (undos-stage (length a.written) next e.hub.dir.leaves e.pieces session (undoes (length a.written)) a t now_in.there gone refl)) where
      b : State
      b = resolving_at (undoes (length a.written)) a

      now : Table
      now = put_in_phase e.hub.txns session phase.Resolving

      next : Machine
      next = after w.machine (StartLeaving session)

      mine : SessionStands w.machine e.hub e.pieces session a
      mine = st.sessions session a at

      sets : SetsSeat e.hub.txns now session (seat_in e.hub.txns session phase.Resolving)
      sets = phase-sets e.hub.txns session phase.Resolving

      after_is : next ≡ left (Prepared stamp) w.machine session t
      after_is = leave-is w.machine session t (Prepared stamp) there is

      now_in : IsIn w.machine next session t Resolving
      now_in = subst (λ m. IsIn w.machine m session t Resolving) (sym after_is) (in-set w.machine session t Resolving (appended t.writes (Undo (name_of w.machine t)) w.machine.history) there)

      gone : NoneStands next (in_phase Resolving t)
      gone = subst (λ m. NoneStands m (in_phase Resolving t)) (sym after_is) (none-stands w.machine session stamp t st.valid there is)

      does : (fewer : ℕ) × (fewer ≤ length a.written + done_left a) × (doing_in e.hub.dir.leaves session b ≡ Ending answers.Done fewer)
      does = undos-doing e.hub.dir.leaves (length a.written) session (undoes (length a.written)) a

      seated : IsSeated (record e.hub { txns = now }) session b
      seated = seated-in e.hub now session phase.Resolving b sets (st.sessions session a at).seated.opened refl

pub resolves-go : ChainsGoOn → ResolvesGo
resolves-go law e w session a st at at-resolve = subst (λ g. Goes e w session (hub_made_at g e.hub session a)) (sym is) (by-fault e.hub.fault refl) where
  is : a.stage ≡ stage.Resolve
  is = resolve-stage a.stage at-resolve

  mine : SessionStands w.machine e.hub e.pieces session a
  mine = st.sessions session a at

  stands : EndsOnlyDown w.machine session × ForTransaction w.machine session (λ t. ResolvesStand t.phase t)
  stands = stage-stands e w session a stage.Resolve st at is

  settled : (outcome : Outcome) (event : Event) (made : Made) → decision w.machine session RollbackCall ≡ (outcome, event) → SettledBy outcome event w.machine session (decide_left a) made → GoesOn (w.again session) (doing_in e.hub.dir.leaves session a) w.machine session made
  settled outcome event made d by = subst (λ x. GoesOn (w.again session) x w.machine session made) (sym (doing-at e.hub.dir.leaves session a stage.Resolve is))
      (inr (subst (λ (x : Outcome × Event). SettledBy x.0 x.1 w.machine session (decide_left a) made) (sym d) by))

  is-refused : (r : Refusal) → decision w.machine session RollbackCall ≡ refused r → Goes e w session (beside e.hub (refuses r a))
  is-refused r d = refused-goes e w session a stage.Resolve r st at is stands.0 (inr (refused-settled (decision w.machine session RollbackCall) r w.machine session (decide_left a) d))

  by-state : e.hub.fault ≡ None → (t : Transaction) (q : ModelPhase) → transaction_of w.machine session ≡ Some t → t.phase ≡ q → decision w.machine session RollbackCall ≡ rollback_decision q session
  by-state up t q there in_q = decided-up w.machine session RollbackCall (sym st.fault ∙ up) ∙ (one-there w.machine session t (λ t. rollback_decision t.phase session) there ∙ ap (λ p. rollback_decision p session) in_q)

  by-phase : e.hub.fault ≡ None → (p : Phase) → a.phase ≡ p → Goes e w session (resolves_in p e.hub session a)
  by-phase up phase.Idle in_p = is-refused (told.Invalid why.NoTxn)
      (decided-up w.machine session RollbackCall (sym st.fault ∙ up) ∙ none-there w.machine session (λ t. rollback_decision t.phase session) (idle-none w.machine e.hub e.pieces session a mine in_p))
  by-phase up phase.Running in_p = let x = phase-there w.machine e.hub e.pieces session a phase.Running Running mine in_p refl in
      leaves-goes law e w session a x.0 Done answers.Done st at (running-leaves w.machine session a x.0 in_p x.1 x.2) (sym st.fault ∙ up) refl (λ made. settled Done (StartLeaving session) made (by-state up x.0 Running x.1 x.2))
  by-phase up phase.Failed in_p = let x = phase-there w.machine e.hub e.pieces session a phase.Failed Failed mine in_p refl in
      leaves-goes law e w session a x.0 Done answers.Done st at (failed-leaves w.machine session a x.0 in_p x.1 x.2) (sym st.fault ∙ up) refl (λ made. settled Done (StartLeaving session) made (by-state up x.0 Failed x.1 x.2))
  by-phase up (phase.Prepared stamp) in_p = let x = phase-there w.machine e.hub e.pieces session a (phase.Prepared stamp) (Prepared stamp) mine in_p refl in
      undo-goes law e w session stamp a x.0 st at x.1 x.2 in_p (λ made. settled Done (StartLeaving session) made (by-state up x.0 (Prepared stamp) x.1 x.2))
  by-phase up phase.Resolving in_p = let x = phase-there w.machine e.hub e.pieces session a phase.Resolving Resolving mine in_p refl in
      absurd (up-living w.machine session x.0 Resolving (sym st.fault ∙ up) stands.0 x.1 x.2 tt)
  by-phase up phase.Leaving in_p = let x = phase-there w.machine e.hub e.pieces session a phase.Leaving Leaving mine in_p refl in
      absurd (up-living w.machine session x.0 Leaving (sym st.fault ∙ up) stands.0 x.1 x.2 tt)

  by-fault : (f : Option Fault) → e.hub.fault ≡ f → Goes e w session (of_some (resolves_in a.phase e.hub session a) (λ fault. beside e.hub (refuses (told.Panic fault) a)) f)
  by-fault (Some fault) down = is-refused (told.Panic fault) (decided-down w.machine session RollbackCall fault (sym st.fault ∙ down) (on-hub w.machine session stands.1))
  by-fault None up = by-phase up a.phase refl
