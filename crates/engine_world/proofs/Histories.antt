-- The look in the history, which has no version.
use Rattle.std.proofs.Common.{◌≡◌, ℕ, refl, ap, sym, ◌∙◌, List, inl, inr, subst, arith}
use Rattle.std.specs.Prelude.{Option, Some, None, slice_get}
use Rattle.failure.specs.declared.Fault.{Fault}
use Rattle.wt_code.specs.declared.answers.Answer.{Answer}
use Rattle.wt_code.specs.declared.answers.Answer.TheVariants as answers
use Rattle.wt_code.specs.declared.refusals.Refusal.TheVariants as told
use Rattle.kv_model.specs.Machine.{Event, Nothing, of_some}
use Rattle.call_steps.specs.declared.reply.Reply.TheVariants as reply
use Rattle.call_steps.specs.declared.stage.KeyCall.{KeyCall}
use Rattle.call_steps.specs.declared.stage.Stage.{Stage}
use Rattle.call_steps.specs.declared.stage.Stage.TheVariants as stage
use Rattle.call_steps.specs.declared.stage.Target.{Target}
use Rattle.call_steps.specs.Stages.{cursor_in}
use Rattle.call_steps.specs.HubEvents.{beside, history_answer, history_made, hub_made_at}
use Rattle.call_steps.specs.State.{State, clears, moves, answered}
use Rattle.engine_world.specs.Worlds.{World, Decided}
use Rattle.engine_world.specs.Doings.{doing_in, event_with, landing}
use Rattle.engine_world.specs.Steps.{GoesOn, TellsFault, Made}
use Rattle.engine_world.specs.Stages.{IsOnLeaf, HasLooked}
use Rattle.engine_world.specs.Stands.{Engine, Stands, SessionStands}
use Rattle.engine_world.specs.Laws.{HistoriesGo, IsHistory}
use Rattle.engine_world.proofs.Moves.{alone-leads}
use Rattle.engine_world.proofs.HubMoves.{Goes, stage-stands, goes-from}
use Rattle.engine_world.proofs.InPlace.{StageInPlace}

-- a fault moves no cursor
no-landing : (session : ℕ) (target : Target) (key : List ℕ) (fault : Fault) (o : Option ℕ) → of_some Nothing (λ (cursor : ℕ). landing session cursor target key (answers.Refused (told.Panic fault))) o ≡ Nothing
no-landing session target key fault None = refl
no-landing session target key fault (Some cursor) = refl

module _ (e : Engine) (w : World) (session : ℕ) (a : State) (call : KeyCall) (target : Target) (st : Stands e w) (at : slice_get e.sessions session ≡ Some a) (is : a.stage ≡ stage.History call target) where
  mine : SessionStands w.machine e.hub e.pieces session a
  mine = st.sessions session a at

  on : IsOnLeaf w.machine e.hub.dir.leaves session call target
  on = stage-stands e w session a (stage.History call target) st at is

  looked : HasLooked w.machine session call
  looked = (on.0.0, on.0.1, inl on.0.2.0)

  -- the session goes on to this stage with this answer
  answered-goes : (g : Stage) (answer : Answer (List ℕ)) → StageInPlace g w.machine e.hub.dir.leaves e.pieces session (record a { stage = g; answer = answer })
      → GoesOn (w.again session) (Decided (answers.Refused told.NotFound) (event_with session call target a.key (answers.Refused told.NotFound)) 3) w.machine session
      (record { told = reply.More; machine = w.machine; doing = doing_in e.hub.dir.leaves session (record a { stage = g; answer = answer }) })
      → Goes e w session (reply.More, (e.hub, record a { stage = g; answer = answer }))
  answered-goes g answer stands goes = alone-leads e w session a (record a { stage = g; answer = answer }) e.hazards reply.More st at
      (goes-from (w.again session) e.hub.dir.leaves session a (stage.History call target) w.machine (record { told = reply.More; machine = w.machine; doing = doing_in e.hub.dir.leaves session (record a { stage = g; answer = answer }) }) is goes)
      (record {
        phase = mine.phase;
        seated = record { opened = mine.seated.opened; phase = mine.seated.phase };
        cursors = mine.cursors;
        noted = mine.noted;
        stage = stands;
      })

  -- without a fault
  finds-none : (o : Option ℕ) → Goes e w session (beside e.hub (reply.More, of_some (clears call target (answers.Refused told.NotFound) a) (λ (cursor : ℕ). moves cursor call target (answers.Refused told.NotFound) a) o))
  finds-none None = answered-goes (stage.Clear call target) (answers.Refused told.NotFound) looked (inl (1, omega arith, refl))
  finds-none (Some cursor) = answered-goes (stage.ClearCursor call target) (answers.Refused told.NotFound) on (inl (2, omega arith, refl))

  -- the fault is told
  told-goes : (fault : Fault) → w.machine.fault ≡ Some fault → GoesOn (w.again session) (Decided (answers.Refused told.NotFound) (event_with session call target a.key (answers.Refused told.NotFound)) 3) w.machine session
      (record { told = reply.More; machine = w.machine; doing = Decided (answers.Refused (told.Panic fault)) (event_with session call target a.key (answers.Refused (told.Panic fault))) 1 })
  told-goes fault down = inr (inr (subst (λ (f : Option Fault). TellsFault f 3 w.machine (made-with (event_with session call target a.key (answers.Refused (told.Panic fault))))) (sym down)
      (1, omega arith, ap made-with (no-landing session target a.key fault (cursor_in call))))) where
        made-with : Event → Made
        made-with event = record { told = reply.More; machine = w.machine; doing = Decided (answers.Refused (told.Panic fault)) event 1 }

  tells-fault : (fault : Fault) → w.machine.fault ≡ Some fault → (o : Option ℕ)
      → Goes e w session (beside e.hub (reply.More, of_some (clears call target (answers.Refused (told.Panic fault)) a) (λ (cursor : ℕ). moves cursor call target (answers.Refused (told.Panic fault)) a) o))
  tells-fault fault down None = answered-goes (stage.Clear call target) (answers.Refused (told.Panic fault)) looked (told-goes fault down)
  tells-fault fault down (Some cursor) = answered-goes (stage.Clear call target) (answers.Refused (told.Panic fault)) looked (told-goes fault down)

  by-fault : (f : Option Fault) → e.hub.fault ≡ f → Goes e w session (beside e.hub (reply.More, answered call target (history_answer f) a))
  by-fault None up = finds-none (cursor_in call)
  by-fault (Some fault) down = tells-fault fault (sym st.fault ∙ down) (cursor_in call)

  history-goes : Goes e w session (history_made e.hub a call target)
  history-goes = by-fault e.hub.fault refl

pub histories-go : HistoriesGo
histories-go e w session a st at looks = by-stage a.stage refl looks where
  by-stage : (g : Stage) → a.stage ≡ g → IsHistory g → Goes e w session (hub_made_at g e.hub session a)
  by-stage (stage.History call target) is looks = history-goes e w session a call target st at is
  by-stage _ is looks = absurd looks
