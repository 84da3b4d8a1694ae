-- A transaction that is not prepared begins its rollback, and ends at once where it wrote nothing.
use Rattle.std.proofs.Common.{◌≡◌, ◌+◌, ℕ, zero, suc, refl, ap, sym, ◌∙◌, List, [], ◌∷◌, length, inl, inr, subst, arith, None}
use Rattle.std.specs.Prelude.{Some, find, slice_get}
use Rattle.wt_code.specs.declared.answers.Answer.{Answer}
use Rattle.kv_model.specs.Allowed.{Allowed}
use Rattle.kv_model.specs.History.{Write, tables, writes_at}
use Rattle.kv_model.specs.Machine.{Machine, Transaction, Running, Failed, Leaving, StartLeaving, EndTransaction, of_some, in_phase, transaction_of, name_of, with_transaction, after}
use Rattle.kv_model.specs.Decisions.{Outcome}
use Rattle.kv_model.specs.Told.{Tells}
use Rattle.kv_model.specs.Valid.{Valid}
use Rattle.kv_model.proofs.EveryEvent.{valid-after}
use Rattle.tree_dir.specs.declared.leaf.Leaf.{Leaf}
use Rattle.txn_table.specs.declared.phase.Phase.TheVariants as phase
use Rattle.txn_table.specs.Stands.{TableStands}
use Rattle.txn_table.specs.Tabled.{ended}
use Rattle.txn_table.proofs.Standing.{calls-stand}
use Rattle.call_steps.specs.declared.edit.Edit.TheVariants as edit
use Rattle.call_steps.specs.declared.frame.FramePiece.{FramePiece}
use Rattle.call_steps.specs.declared.reply.Reply.TheVariants as reply
use Rattle.call_steps.specs.declared.written.WrittenKey.{WrittenKey}
use Rattle.call_steps.specs.HubEvents.{beside, known_phase, leaves_with, with_txns}
use Rattle.call_steps.specs.Stages.{undoes}
use Rattle.call_steps.specs.State.{State, finished, leaves}
use Rattle.update_chain.specs.EventLaws.{ChainsGoOn}
use Rattle.engine_world.specs.Doings.{doing_at, doing_in, decide_left, done_left}
use Rattle.engine_world.specs.Leaves.{AreNoted}
use Rattle.engine_world.specs.Stands.{Engine, Stands, SessionStands}
use Rattle.engine_world.specs.Steps.{EndsIn}
use Rattle.engine_world.specs.Worlds.{World, Ending}
use Rattle.engine_world.proofs.Events.{event-beside, beside-then, all-same}
use Rattle.engine_world.proofs.Moves.{leads}
use Rattle.engine_world.proofs.HubMoves.{Goes, seat_in, ended-sets, seat-beside, leaves-go-on}
use Rattle.engine_world.proofs.Deciding.{Settling, IsIn, in-set, phased-stands, leave-is}
use Rattle.engine_world.proofs.Ends.{seat-idle}
use Rattle.engine_world.proofs.Finishing.{cursors-count, without-gone, finished-stands, finished-goes}
use Rattle.engine_world.proofs.Fronts.{did-not}
use Rattle.engine_world.proofs.Resolving.{edited-none}
use Rattle.engine_world.proofs.InPlace.{StageInPlace}

-- a running or failed transaction of the session leaves
pub record MayLeave (m : Machine) (session : ℕ) (a : State) (t : Transaction) : Type 0 where
  pub there : transaction_of m session ≡ Some t
  pub known : known_phase a.phase ≡ phase.Running
  pub leaves : after m (StartLeaving session) ≡ with_transaction m session (Some (in_phase Leaving t))

pub running-leaves : (m : Machine) (session : ℕ) (a : State) (t : Transaction) → a.phase ≡ phase.Running → transaction_of m session ≡ Some t → t.phase ≡ Running → MayLeave m session a t
running-leaves m session a t in_p there is = record { there = there; known = ap known_phase in_p; leaves = leave-is m session t Running there is }

pub failed-leaves : (m : Machine) (session : ℕ) (a : State) (t : Transaction) → a.phase ≡ phase.Failed → transaction_of m session ≡ Some t → t.phase ≡ Failed → MayLeave m session a t
failed-leaves m session a t in_p there is = record { there = there; known = ap known_phase in_p; leaves = leave-is m session t Failed there is }

left-in : (m : Machine) (session : ℕ) (a : State) (t : Transaction) → MayLeave m session a t → IsIn m (after m (StartLeaving session)) session t Leaving
left-in m session a t v = subst (λ n. IsIn m n session t Leaving) (sym v.leaves) (in-set m session t Leaving m.history v.there)

-- the table of transactions learns of it later
left-lags : (e : Engine) (w : World) (session : ℕ) (a : State) (t : Transaction) → Stands e w → slice_get e.sessions session ≡ Some a → MayLeave w.machine session a t → TableStands e.hub.txns (after w.machine (StartLeaving session))
left-lags e w session a t st at v = (calls-stand e.hub.txns w.machine st.valid st.txns).lags session (inl ((st.sessions session a at).seated.phase ∙ v.known))

-- ---- what was written

no-keys : (keys : List WrittenKey) → length keys ≡ 0 → keys ≡ []
no-keys [] none = refl
no-keys (k ∷ keys) none = absurd (omega (arith, none))

no-writes : (leaves : List Leaf) (pieces : List FramePiece) (writes : List Write) → AreNoted leaves pieces writes [] → writes ≡ []
no-writes leaves pieces [] noted = refl
no-writes leaves pieces (w ∷ writes) noted = absurd (noted.noted w (inl refl)).1

pub noted-of : (e : Engine) (w : World) (session : ℕ) (a : State) (t : Transaction) → Stands e w → slice_get e.sessions session ≡ Some a → transaction_of w.machine session ≡ Some t
    → AreNoted e.hub.dir.leaves e.pieces t.writes a.written
noted-of e w session a t st at there = subst (λ o. AreNoted e.hub.dir.leaves e.pieces (of_some [] (λ (x : Transaction). x.writes) o) a.written) there (st.sessions session a at).noted

wrote-none : (e : Engine) (w : World) (session : ℕ) (a : State) (t : Transaction) → Stands e w → slice_get e.sessions session ≡ Some a → transaction_of w.machine session ≡ Some t → length a.written ≡ 0 → t.writes ≡ []
wrote-none e w session a t st at there none = no-writes e.hub.dir.leaves e.pieces t.writes
    (subst (λ keys. AreNoted e.hub.dir.leaves e.pieces t.writes keys) (no-keys a.written none) (noted-of e w session a t st at there))

-- ---- the two ways

-- it wrote nothing, and ends at once
at-once : ChainsGoOn → (e : Engine) (w : World) (session : ℕ) (a : State) (t : Transaction) (outcome : Outcome) (answer : Answer (List ℕ)) → Stands e w → slice_get e.sessions session ≡ Some a → MayLeave w.machine session a t → w.machine.fault ≡ None → t.writes ≡ []
    → Tells outcome answer → Settling e.hub.dir.leaves w session a outcome (StartLeaving session) → Goes e w session (with_txns e.hub (ended e.hub.txns session) (finished answer a))
at-once law e w session a t outcome answer st at v up empty tells settles = leads e w session a (finished answer a).1 (record e.hub { txns = ended e.hub.txns session }) e.pieces e.hazards next (finished answer a).0 st at
    (settles (record { told = (finished answer a).0; machine = next; doing = doing_in e.hub.dir.leaves session (finished answer a).1 }) (
      answer,
      tells,
      subst (λ o. EndsIn o answer middle session (decide_left a) (record { told = (finished answer a).0; machine = next; doing = doing_in e.hub.dir.leaves session (finished answer a).1 })) (sym now.there)
          (inr (still-up, empty, finished-goes e.hub.dir.leaves answer (decide_left a) next session a (omega arith))),
    ))
    (record {
      valid = valid-after middle (EndTransaction session) valid may;
      beside = seat-beside session w.machine next e.hub (ended e.hub.txns session) (seat_in e.hub.txns session phase.Idle) e.pieces
          (beside-then session w.machine middle next (event-beside session w.machine (StartLeaving session) st.valid tt refl) (event-beside session middle (EndTransaction session) valid may refl))
          (ended-sets e.hub.txns session);
      fault = refl;
      stamps = refl;
      txns = (calls-stand e.hub.txns middle valid (left-lags e w session a t st at v)).ends session may;
      made = ap (λ (m : Machine). tables m.history) v.leaves;
      leaves = leaves-go-on law middle (EndTransaction session) w.shelf w.records e.hub.dir.leaves e.pieces e.states valid may (λ table key. did-not middle session (in_phase Leaving t) table key now.there (ap (find (writes_at table key)) empty))
          (leaves-go-on law w.machine (StartLeaving session) w.shelf w.records e.hub.dir.leaves e.pieces e.states st.valid tt (λ table key. tt) st.leaves);
      mine = finished-stands next (record e.hub { txns = ended e.hub.txns session }) e.pieces session a answer (without-gone middle session (in_phase Leaving t) valid now.there)
          (cursors-count w.machine e.hub e.pieces session a t st.valid v.there (st.sessions session a at))
          (seat-idle w.machine e.hub e.pieces session a (st.sessions session a at)).0 (seat-idle w.machine e.hub e.pieces session a (st.sessions session a at)).1;
    }) where
      middle : Machine
      middle = after w.machine (StartLeaving session)

      next : Machine
      next = after middle (EndTransaction session)

      still-up : middle.fault ≡ None
      still-up = (event-beside session w.machine (StartLeaving session) st.valid tt refl).apart.fault ∙ up

      now : IsIn w.machine middle session t Leaving
      now = left-in w.machine session a t v

      valid : Valid middle
      valid = valid-after w.machine (StartLeaving session) st.valid tt

      may : Allowed middle (EndTransaction session)
      may = (in_phase Leaving t, now.there, tt)

-- it has updates to take out
with-undos : ChainsGoOn → (e : Engine) (w : World) (session n : ℕ) (a : State) (t : Transaction) (outcome : Outcome) (answer : Answer (List ℕ)) → Stands e w → slice_get e.sessions session ≡ Some a → MayLeave w.machine session a t
    → length a.written ≡ suc n → Tells outcome answer → Settling e.hub.dir.leaves w session a outcome (StartLeaving session) → Goes e w session (beside e.hub (reply.More, leaves answer a))
with-undos law e w session n a t outcome answer st at v some tells settles = leads e w session a (leaves answer a) e.hub e.pieces e.hazards next reply.More st at
    (settles (record { told = reply.More; machine = next; doing = doing_in e.hub.dir.leaves session (leaves answer a) }) (
      answer,
      tells,
      subst (λ o. EndsIn o answer next session (decide_left a) (record { told = reply.More; machine = next; doing = doing_in e.hub.dir.leaves session (leaves answer a) })) (sym now.there)
          (inl (suc n + done_left a, (omega (arith, some)), ap (λ d. record { told = reply.More; machine = next; doing = d }) does)),
    ))
    (record {
      valid = valid-after w.machine (StartLeaving session) st.valid tt;
      beside = all-same session w.machine next e.hub e.pieces (event-beside session w.machine (StartLeaving session) st.valid tt refl);
      fault = refl;
      stamps = refl;
      txns = left-lags e w session a t st at v;
      made = ap (λ (m : Machine). tables m.history) v.leaves;
      leaves = leaves-go-on law w.machine (StartLeaving session) w.shelf w.records e.hub.dir.leaves e.pieces e.states st.valid tt (λ table key. tt) st.leaves;
      mine = phased-stands w.machine next e.hub e.hub.txns e.pieces session a (leaves answer a) t Leaving mine v.there now (record { opened = mine.seated.opened; phase = mine.seated.phase ∙ v.known }) refl refl refl
          (subst (λ k. StageInPlace (undoes k) next e.hub.dir.leaves e.pieces session (leaves answer a)) (sym some) (
            ((omega arith), (omega (arith, some))),
            (in_phase Leaving t, now.there, edited-none edit.Undo (name_of next (in_phase Leaving t)) e.pieces a.written (suc n) (omega (arith, some))),
          ));
    }) where
      next : Machine
      next = after w.machine (StartLeaving session)

      now : IsIn w.machine next session t Leaving
      now = left-in w.machine session a t v

      mine : SessionStands w.machine e.hub e.pieces session a
      mine = st.sessions session a at

      does : doing_in e.hub.dir.leaves session (leaves answer a) ≡ Ending answer (suc n + done_left a)
      does = ap (λ k. doing_at (undoes k) e.hub.dir.leaves session (leaves answer a)) some

-- either of them
pub leaves-goes : ChainsGoOn → (e : Engine) (w : World) (session : ℕ) (a : State) (t : Transaction) (outcome : Outcome) (answer : Answer (List ℕ)) → Stands e w → slice_get e.sessions session ≡ Some a → MayLeave w.machine session a t → w.machine.fault ≡ None
    → Tells outcome answer → Settling e.hub.dir.leaves w session a outcome (StartLeaving session) → Goes e w session (leaves_with (length a.written) answer e.hub session a)
leaves-goes law e w session a t outcome answer st at v up tells settles = by-count (length a.written) refl where
  by-count : (n : ℕ) → length a.written ≡ n → Goes e w session (leaves_with n answer e.hub session a)
  by-count zero none = at-once law e w session a t outcome answer st at v up (wrote-none e w session a t st at v.there none) tells settles
  by-count (suc n) some = with-undos law e w session n a t outcome answer st at v some tells settles
