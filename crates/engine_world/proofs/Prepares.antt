-- A prepare, after the marks.
use Rattle.std.proofs.Common.{◌≡◌, ℕ, refl, ap, sym, ◌∙◌, inr, subst}
use Rattle.std.specs.Prelude.{Option, Some, None, slice_get, Ok, Err}
use Rattle.failure.specs.declared.Fault.{Fault}
use Rattle.wt_code.specs.declared.answers.Answer.TheVariants as answers
use Rattle.wt_code.specs.declared.refusals.Invalid.{Invalid}
use Rattle.wt_code.specs.declared.refusals.Invalid.TheVariants as why
use Rattle.wt_code.specs.declared.refusals.Refusal.{Refusal}
use Rattle.wt_code.specs.declared.refusals.Refusal.TheVariants as told
use Rattle.kv_model.specs.History.{Prepare as PrepareEntry, tables}
use Rattle.kv_model.specs.Machine.{Machine, Transaction, Phase as ModelPhase, Running, Failed, Prepared, Resolving, Leaving, Event, PrepareAt, Nothing, of_some, in_phase, appended, prepared, transaction_of, name_of, after}
use Rattle.kv_model.specs.Allowed.{Allowed}
use Rattle.kv_model.specs.Decisions.{Outcome, Done, refused, in_state, ruled, PrepareCall, decision}
use Rattle.kv_model.specs.Refusals.{first_of, prepare_rules}
use Rattle.kv_model.proofs.Deciding.{may-decide}
use Rattle.ts_rules.specs.declared.stamps.Stamps.{Stamps}
use Rattle.ts_rules.specs.Rules.{answer_by}
use Rattle.txn_table.specs.declared.phase.Phase.{Phase}
use Rattle.txn_table.specs.declared.phase.Phase.TheVariants as phase
use Rattle.txn_table.specs.SessionData.{phase_in}
use Rattle.txn_table.specs.Tabled.{Table, released_in}
use Rattle.txn_table.proofs.Standing.{calls-stand}
use Rattle.update_chain.specs.EventLaws.{ChainsGoOn, PreparesStand}
use Rattle.call_steps.specs.declared.edit.Edit.TheVariants as edit
use Rattle.call_steps.specs.declared.reply.Reply.TheVariants as reply
use Rattle.call_steps.specs.declared.stage.Stage.{Stage}
use Rattle.call_steps.specs.declared.stage.Stage.TheVariants as stage
use Rattle.call_steps.specs.HubEvents.{IsSeated, beside, prepares, prepares_by, refuses_as, hub_made_at}
use Rattle.call_steps.specs.State.{State, at_stage, refuses}
use Rattle.call_steps.specs.Words.{unless_running}
use Rattle.engine_world.specs.Laws.{ReleasesGo, IsRelease}
use Rattle.engine_world.specs.Stages.{EndsOnlyDown, ForTransaction, MarksStand, IsEdited}
use Rattle.engine_world.specs.Stands.{Engine, Stands, SessionStands}
use Rattle.engine_world.specs.Steps.{GoesOn, JudgedBy}
use Rattle.engine_world.specs.Worlds.{World, Resting}
use Rattle.engine_world.proofs.HubMoves.{Goes, SetsSeat, seat_in, seat-leads, stage-stands, refused-goes, refused-judged, doing-at, decided-up, decided-down, none-there, in-phase, idle-none, phase-there, phase-ends}
use Rattle.engine_world.proofs.Deciding.{IsIn, in-set, phased-stands, seated-in, prepare-is, tables-appended, release-sets, ruled-none, ruled-some}
use Rattle.engine_world.proofs.OwnKeys.{prepared-leaves}

release-stage : (g : Stage) → IsRelease g → (stamp : ℕ) × (g ≡ stage.Release stamp)
release-stage (stage.Release stamp) is = (stamp, refl)
release-stage _ is = absurd is

-- the transaction is prepared
prepare-goes : ChainsGoOn → PreparesStand → (e : Engine) (w : World) (session stamp : ℕ) (a : State) (t : Transaction) → Stands e w → slice_get e.sessions session ≡ Some a → a.stage ≡ stage.Release stamp
    → transaction_of w.machine session ≡ Some t → t.phase ≡ Running → IsEdited (edit.Mark stamp) w.machine e.pieces t a 0 → decision w.machine session (PrepareCall stamp) ≡ (Done, PrepareAt session stamp)
    → Goes e w session (prepares e.hub session a stamp)
prepare-goes chains-go-on prepares-stand e w session stamp a t st at is there running marked d =
    seat-leads e w session a b now (seat_in e.hub.txns session (phase.Prepared stamp)) (PrepareAt session stamp) (reply.Answer answers.Done) st at may refl sets
    ((calls-stand e.hub.txns w.machine st.valid st.txns).prepares session stamp may)
    (ap (λ (m : Machine). tables m.history) after_is ∙ tables-appended t.writes (PrepareEntry (name_of w.machine t) stamp) w.machine.history refl)
    (prepared-leaves chains-go-on prepares-stand e w session stamp a t st at there running may marked)
    (subst (λ d. GoesOn (w.again session) d w.machine session (record { told = reply.Answer answers.Done; machine = after w.machine (PrepareAt session stamp); doing = Resting })) (sym (doing-at e.hub.dir.leaves session a (stage.Release stamp) is))
    (inr (subst (λ d. JudgedBy d w.machine (record { told = reply.Answer answers.Done; machine = after w.machine (PrepareAt session stamp); doing = Resting })) (sym d) (answers.Done, refl, refl))))
    (phased-stands w.machine (after w.machine (PrepareAt session stamp)) e.hub now e.pieces session a b t (Prepared stamp) (st.sessions session a at) there now_in seated refl refl refl
    (phase-ends (after w.machine (PrepareAt session stamp)) session (in_phase (Prepared stamp) t) (Prepared stamp) now_in.there refl (λ z. z))) where
      b : State
      b = at_stage stage.Rest (record a { phase = phase.Prepared stamp })

      now : Table
      now = released_in e.hub.txns session (phase.Prepared stamp)

      sets : SetsSeat e.hub.txns now session (seat_in e.hub.txns session (phase.Prepared stamp))
      sets = release-sets e.hub.txns session (phase.Prepared stamp)

      may : Allowed w.machine (PrepareAt session stamp)
      may = subst (λ (d : Outcome × Event). Allowed w.machine d.1) d (may-decide w.machine session (PrepareCall stamp) tt)

      after_is : after w.machine (PrepareAt session stamp) ≡ prepared w.machine session stamp t
      after_is = prepare-is w.machine session stamp t there

      now_in : IsIn w.machine (after w.machine (PrepareAt session stamp)) session t (Prepared stamp)
      now_in = subst (λ m. IsIn w.machine m session t (Prepared stamp)) (sym after_is)
          (in-set w.machine session t (Prepared stamp) (appended t.writes (PrepareEntry (name_of w.machine t) stamp) w.machine.history) there)

      seated : IsSeated (record e.hub { txns = now }) session b
      seated = seated-in e.hub now session (phase.Prepared stamp) b sets (st.sessions session a at).seated.opened refl

pub releases-go : ChainsGoOn → PreparesStand → ReleasesGo
releases-go chains-go-on prepares-stand e w session a st at at-release = subst (λ g. Goes e w session (hub_made_at g e.hub session a)) (sym is) (by-fault e.hub.fault refl) where
  stamp : ℕ
  stamp = (release-stage a.stage at-release).0

  is : a.stage ≡ stage.Release stamp
  is = (release-stage a.stage at-release).1

  mine : SessionStands w.machine e.hub e.pieces session a
  mine = st.sessions session a at

  stands : EndsOnlyDown w.machine session × ForTransaction w.machine session (λ t. MarksStand t.phase stamp w.machine e.pieces t a)
  stands = stage-stands e w session a (stage.Release stamp) st at is

  go : Transaction → Outcome × Event
  go t = ruled (prepare_rules w.machine.stable stamp) (PrepareAt session stamp) Nothing

  is-refused : (r : Refusal) → decision w.machine session (PrepareCall stamp) ≡ refused r → Goes e w session (beside e.hub (refuses r a))
  is-refused r d = refused-goes e w session a (stage.Release stamp) r st at is stands.0 (inr (refused-judged (decision w.machine session (PrepareCall stamp)) r w.machine d))

  by-state : e.hub.fault ≡ None → (p : Phase) (q : ModelPhase) → a.phase ≡ p → phase_in p ≡ Some q → decision w.machine session (PrepareCall stamp) ≡ in_state q (ruled (prepare_rules w.machine.stable stamp) (PrepareAt session stamp) Nothing)
  by-state up p q in_p to = let x = phase-there w.machine e.hub e.pieces session a p q mine in_p to in
      decided-up w.machine session (PrepareCall stamp) (sym st.fault ∙ up) ∙ in-phase w.machine session x.0 q go x.1 x.2

  by-rules : e.hub.fault ≡ None → a.phase ≡ phase.Running → (o : Option Invalid) → first_of (prepare_rules w.machine.stable stamp) ≡ o
      → Goes e w session (prepares_by (of_some (Ok tt) (λ reason. Err reason) o) e.hub session a stamp)
  by-rules up running (Some reason) holds = is-refused (told.Invalid reason) (by-state up phase.Running Running running refl ∙ ruled-some (prepare_rules w.machine.stable stamp) (PrepareAt session stamp) Nothing reason holds)
  by-rules up running None passes = let x = phase-there w.machine e.hub e.pieces session a phase.Running Running mine running refl in
      prepare-goes chains-go-on prepares-stand e w session stamp a x.0 st at is x.1 x.2
      (subst (λ p. MarksStand p stamp w.machine e.pieces x.0 a) x.2 (stands.1 x.0 x.1))
      (by-state up phase.Running Running running refl ∙ ruled-none (prepare_rules w.machine.stable stamp) (PrepareAt session stamp) Nothing passes)

  by-phase : e.hub.fault ≡ None → (p : Phase) → a.phase ≡ p
      → Goes e w session (of_some (prepares_by (answer_by (prepare_rules e.hub.stamps.stable stamp)) e.hub session a stamp) (λ reason. refuses_as reason e.hub a) (unless_running p))
  by-phase up phase.Idle in_p = is-refused (told.Invalid why.NoTxn)
      (decided-up w.machine session (PrepareCall stamp) (sym st.fault ∙ up) ∙ none-there w.machine session (λ t. in_state t.phase (go t)) (idle-none w.machine e.hub e.pieces session a mine in_p))
  by-phase up phase.Running in_p = subst (λ n. Goes e w session (prepares_by (answer_by (prepare_rules n stamp)) e.hub session a stamp)) (sym (ap (λ (k : Stamps). k.stable) st.stamps))
      (by-rules up in_p (first_of (prepare_rules w.machine.stable stamp)) refl)
  by-phase up phase.Failed in_p = is-refused (told.Invalid why.FailedTxn) (by-state up phase.Failed Failed in_p refl)
  by-phase up phase.Leaving in_p = is-refused (told.Invalid why.FailedTxn) (by-state up phase.Leaving Leaving in_p refl)
  by-phase up (phase.Prepared at) in_p = is-refused (told.Invalid why.Prepared) (by-state up (phase.Prepared at) (Prepared at) in_p refl)
  by-phase up phase.Resolving in_p = is-refused (told.Invalid why.Prepared) (by-state up phase.Resolving Resolving in_p refl)

  by-fault : (f : Option Fault) → e.hub.fault ≡ f
      → Goes e w session (of_some (of_some (prepares_by (answer_by (prepare_rules e.hub.stamps.stable stamp)) e.hub session a stamp) (λ reason. refuses_as reason e.hub a) (unless_running a.phase)) (λ fault. beside e.hub (refuses (told.Panic fault) a)) f)
  by-fault (Some fault) down = is-refused (told.Panic fault) (decided-down w.machine session (PrepareCall stamp) fault (sym st.fault ∙ down) refl)
  by-fault None up = by-phase up a.phase refl
