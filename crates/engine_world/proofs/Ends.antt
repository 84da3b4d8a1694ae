-- The end of a transaction whose commit or rollback was decided.
use Rattle.std.proofs.Common.{◌≡◌, ◌<◌, ℕ, refl, ap, sym, ◌∙◌, List, length, inr, subst, arith}
use Rattle.std.specs.Prelude.{Option, Some, None, option_map, slice_get}
use Rattle.failure.specs.declared.Fault.{Fault}
use Rattle.wt_code.specs.declared.answers.Answer.TheVariants as answers
use Rattle.wt_code.specs.declared.refusals.Refusal.TheVariants.{Panic}
use Rattle.kv_model.specs.Machine.{Machine, Transaction, Phase as ModelPhase, Running, Failed, Prepared, Resolving, Leaving, of_some, EndTransaction, transaction_of, after}
use Rattle.kv_model.specs.Allowed.{Allowed, HasTransaction}
use Rattle.kv_model.specs.Decisions.{is_there}
use Rattle.kv_model.specs.Reads.{IsEnding}
use Rattle.txn_table.specs.declared.phase.Phase.{Phase}
use Rattle.txn_table.specs.declared.phase.Phase.TheVariants as phase
use Rattle.txn_table.specs.SessionData.{phase_in}
use Rattle.txn_table.specs.Tabled.{ended, phase_of}
use Rattle.txn_table.proofs.Standing.{calls-stand}
use Rattle.update_chain.specs.EventLaws.{ChainsGoOn, EndsStand}
use Rattle.call_steps.specs.declared.frame.FramePiece.{FramePiece}
use Rattle.call_steps.specs.declared.hub.Hub.{Hub}
use Rattle.call_steps.specs.declared.reply.Reply.TheVariants as reply
use Rattle.call_steps.specs.declared.stage.Stage.{Stage}
use Rattle.call_steps.specs.declared.stage.Stage.TheVariants as stage
use Rattle.call_steps.specs.HubEvents.{beside, done, done_in, hub_made_at}
use Rattle.call_steps.specs.State.{State, refuses, finished, without_answer}
use Rattle.engine_world.specs.Doings.{doing_in, done_left}
use Rattle.engine_world.specs.Laws.{EndsGo, IsDone}
use Rattle.engine_world.specs.Stages.{EndsOnlyDown, DoneStands}
use Rattle.engine_world.specs.Stands.{Engine, Stands, SessionStands}
use Rattle.engine_world.specs.Steps.{GoesOn, EndsUnless}
use Rattle.engine_world.specs.Worlds.{World, Resting}
use Rattle.engine_world.proofs.HubMoves.{Goes, seat_in, ended-sets, seat-leads, stage-stands, refused-goes, doing-at}
use Rattle.engine_world.proofs.Deciding.{seat-is}
use Rattle.engine_world.proofs.Finishing.{cursors-count, without-gone, finished-stands, finished-goes}
use Rattle.engine_world.proofs.OwnKeys.{ended-leaves}

-- while the machine is down a transaction may be kept from its end
pub down-ends : (m : Machine) (session : ℕ) (fault : Fault) → m.fault ≡ Some fault → EndsOnlyDown m session
down-ends m session fault down t there ending = ap is_there down

done-stage : (g : Stage) → IsDone g → g ≡ stage.Done
done-stage stage.Done is = refl
done-stage _ is = absurd is

done-ending : (p : ModelPhase) (m : Machine) (pieces : List FramePiece) (t : Transaction) (a : State) → DoneStands p m pieces t a → IsEnding p
done-ending Resolving m pieces t a done = tt
done-ending Leaving m pieces t a done = tt
done-ending Running m pieces t a done = done
done-ending Failed m pieces t a done = done
done-ending (Prepared stamp) m pieces t a done = done

-- of one that is ending
pub done-by : (p : Phase) (q : ModelPhase) (h : Hub) (session : ℕ) (a : State) → phase_in p ≡ Some q → IsEnding q → done_in p h session a ≡ done h session a
done-by phase.Idle q h session a is ending = absurd (cc)
done-by (phase.Prepared at) q h session a is ending = let same : Prepared at ≡ q = cc in absurd (subst IsEnding (sym same) ending)
done-by phase.Running q h session a is ending = refl
done-by phase.Failed q h session a is ending = refl
done-by phase.Resolving q h session a is ending = refl
done-by phase.Leaving q h session a is ending = refl

-- ---- the seat that its end leaves

pub seat-idle : (m : Machine) (hub : Hub) (pieces : List FramePiece) (session : ℕ) (a : State) → SessionStands m hub pieces session a
    → (session < length (ended hub.txns session).sessions) × (phase_of (ended hub.txns session) session ≡ phase.Idle)
seat-idle m hub pieces session a mine = seat-is hub.txns (ended hub.txns session) session phase.Idle (ended-sets hub.txns session) mine.seated.opened

-- ---- the law

end-goes : ChainsGoOn → EndsStand → (e : Engine) (w : World) (session : ℕ) (a : State) (t : Transaction) → Stands e w → slice_get e.sessions session ≡ Some a → a.stage ≡ stage.Done → e.hub.fault ≡ None
    → transaction_of w.machine session ≡ Some t → DoneStands t.phase w.machine e.pieces t a → Goes e w session (done e.hub session a)
end-goes chains-go-on ends-stand e w session a t st at is up there done =
    seat-leads e w session a (finished a.answer (without_answer a)).1 (ended e.hub.txns session) (seat_in e.hub.txns session phase.Idle) (EndTransaction session) (finished a.answer (without_answer a)).0 st at
    may refl (ended-sets e.hub.txns session) ((calls-stand e.hub.txns w.machine st.valid st.txns).ends session may) refl
    (ended-leaves chains-go-on ends-stand e w session a t st at there may done)
    goes
    (finished-stands (after w.machine (EndTransaction session)) (record e.hub { txns = ended e.hub.txns session }) e.pieces session (without_answer a) a.answer (without-gone w.machine session t st.valid there)
    (cursors-count w.machine e.hub e.pieces session a t st.valid there mine) seat.0 seat.1) where
      mine : SessionStands w.machine e.hub e.pieces session a
      mine = st.sessions session a at

      seat : (session < length (ended e.hub.txns session).sessions) × (phase_of (ended e.hub.txns session) session ≡ phase.Idle)
      seat = seat-idle w.machine e.hub e.pieces session a mine

      may : Allowed w.machine (EndTransaction session)
      may = (t, there, done-ending t.phase w.machine e.pieces t a done)

      up_here : w.machine.fault ≡ None
      up_here = sym st.fault ∙ up

      goes : GoesOn (w.again session) (doing_in e.hub.dir.leaves session a) w.machine session
          (record { told = (finished a.answer (without_answer a)).0; machine = after w.machine (EndTransaction session); doing = doing_in e.hub.dir.leaves session (finished a.answer (without_answer a)).1 })
      goes = subst (λ d. GoesOn (w.again session) d w.machine session
          (record { told = (finished a.answer (without_answer a)).0; machine = after w.machine (EndTransaction session); doing = doing_in e.hub.dir.leaves session (finished a.answer (without_answer a)).1 }))
          (sym (doing-at e.hub.dir.leaves session a stage.Done is))
          (inr (subst (λ f. EndsUnless f a.answer w.machine session (done_left a)
          (record { told = (finished a.answer (without_answer a)).0; machine = after w.machine (EndTransaction session); doing = doing_in e.hub.dir.leaves session (finished a.answer (without_answer a)).1 }))
          (sym up_here) (finished-goes e.hub.dir.leaves a.answer (done_left a) (after w.machine (EndTransaction session)) session (without_answer a) (omega arith))))

pub ends-go : ChainsGoOn → EndsStand → EndsGo
ends-go chains-go-on ends-stand e w session a st at at-done = subst (λ g. Goes e w session (hub_made_at g e.hub session a)) (sym is) (by-fault e.hub.fault refl) where
  is : a.stage ≡ stage.Done
  is = done-stage a.stage at-done

  stands : HasTransaction w.machine session (λ t. DoneStands t.phase w.machine e.pieces t a)
  stands = stage-stands e w session a stage.Done st at is

  by-fault : (f : Option Fault) → e.hub.fault ≡ f → Goes e w session (of_some (done_in a.phase e.hub session a) (λ fault. beside e.hub (refuses (Panic fault) a)) f)
  by-fault (Some fault) down = let down_here : w.machine.fault ≡ Some fault = sym st.fault ∙ down in
      refused-goes e w session a stage.Done (Panic fault) st at is (down-ends w.machine session fault down_here)
      (inr (subst (λ f. EndsUnless f a.answer w.machine session (done_left a) (record { told = reply.Answer (answers.Refused (Panic fault)); machine = w.machine; doing = Resting })) (sym down_here) refl))
  by-fault None up = subst (Goes e w session) (sym (done-by a.phase stands.0.phase e.hub session a ((st.sessions session a at).phase ∙ ap (option_map (λ (t : Transaction). t.phase)) stands.1)
      (done-ending stands.0.phase w.machine e.pieces stands.0 a stands.2)))
      (end-goes chains-go-on ends-stand e w session a stands.0 st at is up stands.1 stands.2)
