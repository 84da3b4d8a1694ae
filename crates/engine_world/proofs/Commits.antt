-- The decision of a commit.
use Rattle.std.proofs.Common.{◌≡◌, ◌<◌, ◌≤◌, ◌+◌, ℕ, refl, ap, sym, ◌∙◌, Bool, List, length, inl, inr, subst, arith}
use Rattle.std.specs.Prelude.{Option, Some, None, slice_get, Ok, Err}
use Rattle.failure.specs.declared.Fault.{Fault}
use Rattle.wt_code.specs.declared.answers.Answer.TheVariants as answers
use Rattle.wt_code.specs.declared.refusals.Invalid.{Invalid}
use Rattle.wt_code.specs.declared.refusals.Invalid.TheVariants as why
use Rattle.wt_code.specs.declared.refusals.Refusal.{Refusal}
use Rattle.wt_code.specs.declared.refusals.Refusal.TheVariants as told
use Rattle.kv_model.specs.History.{Commit as CommitEntry, Resolve as ResolveEntry, tables}
use Rattle.kv_model.specs.Machine.{Machine, Transaction, Phase as ModelPhase, Running, Failed, Prepared, Resolving, Leaving, Event, CommitAt, StartLeaving, Nothing, of_some, in_phase, appended, decided, stamped, transaction_of, name_of, after}
use Rattle.kv_model.specs.Allowed.{Allowed}
use Rattle.kv_model.specs.Decisions.{Outcome, Done, Refused, refused, CommitCall, decision, commit_decision}
use Rattle.kv_model.specs.Refusals.{first_of, stamp_of, or_stamp, durable_below, commit_rules, resolve_rules}
use Rattle.kv_model.proofs.Deciding.{may-decide}
use Rattle.ts_rules.specs.declared.stamps.Stamps.{Stamps}
use Rattle.ts_rules.specs.Rules.{answer_by}
use Rattle.txn_table.specs.declared.phase.Phase.{Phase}
use Rattle.txn_table.specs.declared.phase.Phase.TheVariants as phase
use Rattle.txn_table.specs.Tabled.{Table, in_phase as put_in_phase, phase_of, released_in}
use Rattle.txn_table.proofs.Standing.{calls-stand}
use Rattle.update_chain.specs.EventLaws.{ChainsGoOn, CommitsStand, ResolvesStand}
use Rattle.call_steps.specs.declared.reply.Reply.TheVariants as reply
use Rattle.call_steps.specs.declared.stage.CommitStamps.{CommitStamps}
use Rattle.call_steps.specs.declared.stage.Stage.{Stage}
use Rattle.call_steps.specs.declared.stage.Stage.TheVariants as stage
use Rattle.call_steps.specs.HubEvents.{IsSeated, beside, decides_in, decides_prepared, decides_running, hub_made_at, known_phase}
use Rattle.call_steps.specs.Stages.{stamps_then}
use Rattle.call_steps.specs.State.{State, finished, refuses}
use Rattle.engine_world.specs.Doings.{doing_in, decide_left, done_left}
use Rattle.engine_world.specs.Laws.{DecidesGo, IsDecide}
use Rattle.engine_world.specs.Stages.{EndsOnlyDown, ForTransaction, DecidesStand, AreCommitted, IsEdited, IsOrdered, stamps_in}
use Rattle.engine_world.specs.Stands.{Engine, Stands, SessionStands}
use Rattle.engine_world.specs.Steps.{Made, EndsIn, GoesOn, SettledBy}
use Rattle.engine_world.specs.Worlds.{World, Ending}
use Rattle.engine_world.proofs.Events.{event-beside}
use Rattle.engine_world.proofs.HubMoves.{Goes, SetsSeat, seat_in, seat-leads, stage-stands, refused-goes, refused-settled, doing-at, decided-up, decided-down, none-there, one-there, idle-none, phase-there}
use Rattle.engine_world.proofs.Deciding.{Settling, IsIn, in-set, phased-stands, seat-is, seated-in, commit-is, tables-appended, phase-sets, release-sets, ruled-none, ruled-some}
use Rattle.engine_world.proofs.Finishing.{IsGone, cursors-count, without-gone, finished-stands, finished-goes}
use Rattle.engine_world.proofs.Leaving.{running-leaves, leaves-goes, noted-of}
use Rattle.engine_world.proofs.Orders.{prev-is}
use Rattle.engine_world.proofs.OwnKeys.{committed-leaves, resolved-leaves}
use Rattle.engine_world.proofs.Resolving.{resolving_at, stamps-doing, stamps-stage, are-committed}
use Rattle.engine_world.proofs.Rollbacks.{up-living}

decide-stage : (g : Stage) → IsDecide g → (stamps : CommitStamps) × (g ≡ stage.Decide stamps)
decide-stage (stage.Decide stamps) is = (stamps, refl)
decide-stage _ is = absurd is

abbrev given : CommitStamps → Machine → ℕ → Outcome × Event
given stamps m session = decision m session (CommitCall stamps.commit stamps.durable)

abbrev durable_stamp : CommitStamps → ℕ
durable_stamp stamps = or_stamp (stamp_of stamps.durable) (stamp_of stamps.commit)

-- ---- a transaction that runs

commit-goes : ChainsGoOn → CommitsStand → (e : Engine) (w : World) (session : ℕ) (stamps : CommitStamps) (a : State) (t : Transaction) → Stands e w → slice_get e.sessions session ≡ Some a → transaction_of w.machine session ≡ Some t
    → t.phase ≡ Running → a.phase ≡ phase.Running → IsEdited (stamps_in Running stamps) w.machine e.pieces t a 0 → given stamps w.machine session ≡ (Done, CommitAt session (stamp_of stamps.commit) (stamp_of stamps.commit))
    → w.machine.fault ≡ None → Settling e.hub.dir.leaves w session a Done (CommitAt session (stamp_of stamps.commit) (stamp_of stamps.commit)) → Goes e w session (decides_running (Ok tt) e.hub session a)
commit-goes chains-go-on commits-stand e w session stamps a t st at there running in_p edited d up settles =
    seat-leads e w session a (finished answers.Done a).1 now (seat_in e.hub.txns session phase.Idle) event (finished answers.Done a).0 st at may refl sets
    ((calls-stand e.hub.txns w.machine st.valid st.txns).releases session (stamp_of stamps.commit) (stamp_of stamps.commit) may (mine.seated.phase ∙ ap known_phase in_p))
    (ap (λ (m : Machine). tables m.history) after_is
    ∙ tables-appended t.writes (CommitEntry (name_of w.machine t) (stamped (stamp_of stamps.commit) (stamp_of stamps.commit) t.writes)) w.machine.history refl)
    (committed-leaves chains-go-on commits-stand e w session (stamp_of stamps.commit) a t st at there running may edited)
    (settles (record { told = (finished answers.Done a).0; machine = next; doing = doing_in e.hub.dir.leaves session (finished answers.Done a).1 }) (
      answers.Done,
      refl,
      subst (λ o. EndsIn o answers.Done next session (decide_left a) (record { told = (finished answers.Done a).0; machine = next; doing = doing_in e.hub.dir.leaves session (finished answers.Done a).1 })) (sym gone.none)
          ((event-beside session w.machine event st.valid may refl).apart.fault ∙ up, finished-goes e.hub.dir.leaves answers.Done (decide_left a) next session a (omega arith)),
    ))
    (finished-stands next (record e.hub { txns = now }) e.pieces session a answers.Done gone (cursors-count w.machine e.hub e.pieces session a t st.valid there mine)
    seat.0 seat.1) where
      event : Event
      event = CommitAt session (stamp_of stamps.commit) (stamp_of stamps.commit)

      now : Table
      now = released_in e.hub.txns session phase.Idle

      next : Machine
      next = after w.machine event

      mine : SessionStands w.machine e.hub e.pieces session a
      mine = st.sessions session a at

      sets : SetsSeat e.hub.txns now session (seat_in e.hub.txns session phase.Idle)
      sets = release-sets e.hub.txns session phase.Idle

      seat : (session < length now.sessions) × (phase_of now session ≡ phase.Idle)
      seat = seat-is e.hub.txns now session phase.Idle sets mine.seated.opened

      may : Allowed w.machine event
      may = subst (λ (d : Outcome × Event). Allowed w.machine d.1) d (may-decide w.machine session (CommitCall stamps.commit stamps.durable) tt)

      after_is : next ≡ decided Running w.machine session (stamp_of stamps.commit) (stamp_of stamps.commit) t
      after_is = commit-is w.machine session (stamp_of stamps.commit) (stamp_of stamps.commit) t Running there running

      gone : IsGone next session
      gone = let g = without-gone w.machine session t st.valid there in subst (λ m. IsGone m session) (sym after_is) (record { none = g.none; cursors = g.cursors })

-- ---- a prepared transaction

resolve-goes : ChainsGoOn → ResolvesStand → (e : Engine) (w : World) (session stamp : ℕ) (stamps : CommitStamps) (a : State) (t : Transaction) → Stands e w → slice_get e.sessions session ≡ Some a → transaction_of w.machine session ≡ Some t
    → t.phase ≡ Prepared stamp → a.phase ≡ phase.Prepared stamp → given stamps w.machine session ≡ (Done, CommitAt session (stamp_of stamps.commit) (durable_stamp stamps))
    → Settling e.hub.dir.leaves w session a Done (CommitAt session (stamp_of stamps.commit) (durable_stamp stamps)) → Goes e w session (decides_prepared (Ok tt) e.hub session a stamps)
resolve-goes chains-go-on resolves-stand e w session stamp stamps a t st at there is in_p d settles =
    seat-leads e w session a b now (seat_in e.hub.txns session phase.Resolving) event reply.More st at may refl sets
    ((calls-stand e.hub.txns w.machine st.valid st.txns).resolves session (stamp_of stamps.commit) (durable_stamp stamps) stamp may (mine.seated.phase ∙ ap known_phase in_p))
    (ap (λ (m : Machine). tables m.history) after_is
    ∙ tables-appended t.writes (ResolveEntry (name_of w.machine t) (stamped (stamp_of stamps.commit) (durable_stamp stamps) t.writes)) w.machine.history refl)
    (resolved-leaves chains-go-on resolves-stand e w session stamp (stamp_of stamps.commit) (durable_stamp stamps) a t st at there is may)
    (settles (record { told = reply.More; machine = next; doing = doing_in e.hub.dir.leaves session b }) (
      answers.Done,
      refl,
      subst (λ o. EndsIn o answers.Done next session (decide_left a) (record { told = reply.More; machine = next; doing = doing_in e.hub.dir.leaves session b })) (sym now_in.there)
          (inl (does.0, (let few = does.1 in omega arith), ap (λ d. record { told = reply.More; machine = next; doing = d }) does.2)),
    ))
    (phased-stands w.machine next e.hub now e.pieces session a b t Resolving mine there now_in seated refl refl refl
    (stamps-stage stamps (length a.written) next e.hub.dir.leaves e.pieces session (stamps_then stamps (length a.written) stage.Done) a t now_in.there committed refl)) where
      event : Event
      event = CommitAt session (stamp_of stamps.commit) (durable_stamp stamps)

      b : State
      b = resolving_at (stamps_then stamps (length a.written) stage.Done) a

      now : Table
      now = put_in_phase e.hub.txns session phase.Resolving

      next : Machine
      next = after w.machine event

      mine : SessionStands w.machine e.hub e.pieces session a
      mine = st.sessions session a at

      sets : SetsSeat e.hub.txns now session (seat_in e.hub.txns session phase.Resolving)
      sets = phase-sets e.hub.txns session phase.Resolving

      may : Allowed w.machine event
      may = subst (λ (d : Outcome × Event). Allowed w.machine d.1) d (may-decide w.machine session (CommitCall stamps.commit stamps.durable) tt)

      after_is : next ≡ decided (Prepared stamp) w.machine session (stamp_of stamps.commit) (durable_stamp stamps) t
      after_is = commit-is w.machine session (stamp_of stamps.commit) (durable_stamp stamps) t (Prepared stamp) there is

      now_in : IsIn w.machine next session t Resolving
      now_in = subst (λ m. IsIn w.machine m session t Resolving) (sym after_is)
          (in-set w.machine session t Resolving (appended t.writes (ResolveEntry (name_of w.machine t) (stamped (stamp_of stamps.commit) (durable_stamp stamps) t.writes)) w.machine.history) there)

      committed : AreCommitted stamps next (in_phase Resolving t)
      committed = subst (λ m. AreCommitted stamps m (in_phase Resolving t)) (sym after_is) (are-committed stamps w.machine session stamp t)

      does : (fewer : ℕ) × (fewer ≤ length a.written + done_left a) × (doing_in e.hub.dir.leaves session b ≡ Ending answers.Done fewer)
      does = stamps-doing e.hub.dir.leaves stamps (length a.written) session (stamps_then stamps (length a.written) stage.Done) a

      seated : IsSeated (record e.hub { txns = now }) session b
      seated = seated-in e.hub now session phase.Resolving b sets (st.sessions session a at).seated.opened refl

-- ---- the law

pub decides-go : ChainsGoOn → CommitsStand → ResolvesStand → DecidesGo
decides-go chains-go-on commits-stand resolves-stand e w session a st at at-decide = subst (λ g. Goes e w session (hub_made_at g e.hub session a)) (sym is) (by-fault e.hub.fault refl) where
  stamps : CommitStamps
  stamps = (decide-stage a.stage at-decide).0

  is : a.stage ≡ stage.Decide stamps
  is = (decide-stage a.stage at-decide).1

  mine : SessionStands w.machine e.hub e.pieces session a
  mine = st.sessions session a at

  stands : EndsOnlyDown w.machine session × ForTransaction w.machine session (λ t. DecidesStand t.phase stamps w.machine e.pieces t a)
  stands = stage-stands e w session a (stage.Decide stamps) st at is

  settled : (outcome : Outcome) (event : Event) (made : Made) → given stamps w.machine session ≡ (outcome, event) → SettledBy outcome event w.machine session (decide_left a) made → GoesOn (w.again session) (doing_in e.hub.dir.leaves session a) w.machine session made
  settled outcome event made d by = subst (λ x. GoesOn (w.again session) x w.machine session made) (sym (doing-at e.hub.dir.leaves session a (stage.Decide stamps) is))
      (inr (subst (λ (x : Outcome × Event). SettledBy x.0 x.1 w.machine session (decide_left a) made) (sym d) by))

  is-refused : (r : Refusal) → given stamps w.machine session ≡ refused r → Goes e w session (beside e.hub (refuses r a))
  is-refused r d = refused-goes e w session a (stage.Decide stamps) r st at is stands.0 (inr (refused-settled (given stamps w.machine session) r w.machine session (decide_left a) d))

  by-state : e.hub.fault ≡ None → (t : Transaction) (q : ModelPhase) → transaction_of w.machine session ≡ Some t → t.phase ≡ q → given stamps w.machine session ≡ commit_decision q w.machine session t stamps.commit stamps.durable
  by-state up t q there in_q = decided-up w.machine session (CommitCall stamps.commit stamps.durable) (sym st.fault ∙ up)
      ∙ (one-there w.machine session t (λ t. commit_decision t.phase w.machine session t stamps.commit stamps.durable) there ∙ ap (λ p. commit_decision p w.machine session t stamps.commit stamps.durable) in_q)

  -- the stamp that was found below the writes is the one that the rules ask for
  prev : (t : Transaction) → transaction_of w.machine session ≡ Some t → IsOrdered stamps w.machine e.pieces t a 0 → stamps.prev ≡ durable_below w.machine t.writes
  prev t there ordered = prev-is w.machine e.hub.dir.leaves e.pieces t.writes a.written stamps.prev (noted-of e w session a t st at there) ordered

  running-by : e.hub.fault ≡ None → a.phase ≡ phase.Running → (t : Transaction) → transaction_of w.machine session ≡ Some t → t.phase ≡ Running → IsEdited (stamps_in Running stamps) w.machine e.pieces t a 0
      → (o : Option Invalid) → first_of (commit_rules w.machine.oldest w.machine.stable stamps.commit stamps.durable (durable_below w.machine t.writes)) ≡ o
      → Goes e w session (decides_running (of_some (Ok tt) (λ reason. Err reason) o) e.hub session a)
  running-by up in_p t there running edited None passes = let d = by-state up t Running there running
      ∙ ruled-none (commit_rules w.machine.oldest w.machine.stable stamps.commit stamps.durable (durable_below w.machine t.writes)) (CommitAt session (stamp_of stamps.commit) (stamp_of stamps.commit)) (StartLeaving session) passes in
      commit-goes chains-go-on commits-stand e w session stamps a t st at there running in_p edited d (sym st.fault ∙ up) (λ made. settled Done (CommitAt session (stamp_of stamps.commit) (stamp_of stamps.commit)) made d)
  running-by up in_p t there running edited (Some reason) holds = let d = by-state up t Running there running
      ∙ ruled-some (commit_rules w.machine.oldest w.machine.stable stamps.commit stamps.durable (durable_below w.machine t.writes)) (CommitAt session (stamp_of stamps.commit) (stamp_of stamps.commit)) (StartLeaving session) reason holds in
      leaves-goes chains-go-on e w session a t (Refused (told.Invalid reason)) (answers.Refused (told.Invalid reason)) st at (running-leaves w.machine session a t in_p there running) (sym st.fault ∙ up) refl
      (λ made. settled (Refused (told.Invalid reason)) (StartLeaving session) made d)

  prepared-by : e.hub.fault ≡ None → (stamp : ℕ) → a.phase ≡ phase.Prepared stamp → (t : Transaction) → transaction_of w.machine session ≡ Some t → t.phase ≡ Prepared stamp
      → (o : Option Invalid) → first_of (resolve_rules w.machine.oldest w.machine.stable stamp stamps.commit stamps.durable (durable_below w.machine t.writes)) ≡ o
      → Goes e w session (decides_prepared (of_some (Ok tt) (λ reason. Err reason) o) e.hub session a stamps)
  prepared-by up stamp in_p t there in_q None passes = let d = by-state up t (Prepared stamp) there in_q
      ∙ ruled-none (resolve_rules w.machine.oldest w.machine.stable stamp stamps.commit stamps.durable (durable_below w.machine t.writes)) (CommitAt session (stamp_of stamps.commit) (durable_stamp stamps)) Nothing passes in
      resolve-goes chains-go-on resolves-stand e w session stamp stamps a t st at there in_q in_p d (λ made. settled Done (CommitAt session (stamp_of stamps.commit) (durable_stamp stamps)) made d)
  prepared-by up stamp in_p t there in_q (Some reason) holds = is-refused (told.Invalid reason) (by-state up t (Prepared stamp) there in_q
      ∙ ruled-some (resolve_rules w.machine.oldest w.machine.stable stamp stamps.commit stamps.durable (durable_below w.machine t.writes)) (CommitAt session (stamp_of stamps.commit) (durable_stamp stamps)) Nothing reason holds)

  by-phase : e.hub.fault ≡ None → (p : Phase) → a.phase ≡ p → Goes e w session (decides_in p e.hub session a stamps)
  by-phase up phase.Idle in_p = is-refused (told.Invalid why.NoTxn) (decided-up w.machine session (CommitCall stamps.commit stamps.durable) (sym st.fault ∙ up)
      ∙ none-there w.machine session (λ t. commit_decision t.phase w.machine session t stamps.commit stamps.durable) (idle-none w.machine e.hub e.pieces session a mine in_p))
  by-phase up phase.Running in_p = let x = phase-there w.machine e.hub e.pieces session a phase.Running Running mine in_p refl in
      let s = subst (λ p. DecidesStand p stamps w.machine e.pieces x.0 a) x.2 (stands.1 x.0 x.1) in
      let rules : commit_rules e.hub.stamps.oldest e.hub.stamps.stable stamps.commit stamps.durable stamps.prev
      ≡ commit_rules w.machine.oldest w.machine.stable stamps.commit stamps.durable (durable_below w.machine x.0.writes) =
      ap (λ (k : Stamps). commit_rules k.oldest k.stable stamps.commit stamps.durable stamps.prev) st.stamps ∙ ap (commit_rules w.machine.oldest w.machine.stable stamps.commit stamps.durable) (prev x.0 x.1 s.0) in
      subst (λ (l : List (Bool × Invalid)). Goes e w session (decides_running (answer_by l) e.hub session a)) (sym rules)
      (running-by up in_p x.0 x.1 x.2 s.1 (first_of (commit_rules w.machine.oldest w.machine.stable stamps.commit stamps.durable (durable_below w.machine x.0.writes))) refl)
  by-phase up phase.Failed in_p = let x = phase-there w.machine e.hub e.pieces session a phase.Failed Failed mine in_p refl in is-refused (told.Invalid why.FailedTxn) (by-state up x.0 Failed x.1 x.2)
  by-phase up (phase.Prepared stamp) in_p = let x = phase-there w.machine e.hub e.pieces session a (phase.Prepared stamp) (Prepared stamp) mine in_p refl in
      let s = subst (λ p. DecidesStand p stamps w.machine e.pieces x.0 a) x.2 (stands.1 x.0 x.1) in
      let rules : resolve_rules e.hub.stamps.oldest e.hub.stamps.stable stamp stamps.commit stamps.durable stamps.prev
      ≡ resolve_rules w.machine.oldest w.machine.stable stamp stamps.commit stamps.durable (durable_below w.machine x.0.writes) =
      ap (λ (k : Stamps). resolve_rules k.oldest k.stable stamp stamps.commit stamps.durable stamps.prev) st.stamps ∙ ap (resolve_rules w.machine.oldest w.machine.stable stamp stamps.commit stamps.durable) (prev x.0 x.1 s) in
      subst (λ (l : List (Bool × Invalid)). Goes e w session (decides_prepared (answer_by l) e.hub session a stamps)) (sym rules)
      (prepared-by up stamp in_p x.0 x.1 x.2 (first_of (resolve_rules w.machine.oldest w.machine.stable stamp stamps.commit stamps.durable (durable_below w.machine x.0.writes))) refl)
  by-phase up phase.Resolving in_p = let x = phase-there w.machine e.hub e.pieces session a phase.Resolving Resolving mine in_p refl in
      absurd (up-living w.machine session x.0 Resolving (sym st.fault ∙ up) stands.0 x.1 x.2 tt)
  by-phase up phase.Leaving in_p = let x = phase-there w.machine e.hub e.pieces session a phase.Leaving Leaving mine in_p refl in
      absurd (up-living w.machine session x.0 Leaving (sym st.fault ∙ up) stands.0 x.1 x.2 tt)

  by-fault : (f : Option Fault) → e.hub.fault ≡ f → Goes e w session (of_some (decides_in a.phase e.hub session a stamps) (λ fault. beside e.hub (refuses (told.Panic fault) a)) f)
  by-fault (Some fault) down = is-refused (told.Panic fault) (decided-down w.machine session (CommitCall stamps.commit stamps.durable) fault (sym st.fault ∙ down) refl)
  by-fault None up = by-phase up a.phase refl
